use Rattle.std.proofs.Common.{◌≡◌, Ok, Err, List, [], subst, ◌∷◌, refl, rules}
use Rattle.std.proofs.lemmas.Result.{err_from_is_err_and}
use Rattle.bank_parts.specs.declared.parts.GlobalZone.{GlobalZone}
use Rattle.bank_parts.specs.declared.parts.Zone.{Zone}
use Rattle.script_tokens.specs.Parsers.{Parser, ◌>>=◌, pure}
use Rattle.script_grammar.specs.Memory.{ReadsOrOutOfMemory}
use Rattle.script_grammar.specs.Items.{no_content}
use Rattle.script_grammar.specs.Zones.{zone_after_brace, remaining_zones, first_zone_after_brace}
use Rattle.script_grammar.proofs.MemoryLaws.{first_out_of_memory, then_reads}
use Rattle.script_grammar.proofs.zone_lists.first_zone_after_brace.Goals as goal

abbrev alone : List Zone → Parser (GlobalZone × List Zone)
alone zs = pure (no_content, zs)

pub returns-in_err-zone : goal.returns-in_err-zone
unfolding first_zone_after_brace
returns-in_err-zone c =
    let p = err_from_is_err_and c.from_residual.result c.from_residual.ensures.1 in
    rw (p.1, p.2)
    (first_out_of_memory zone_after_brace (λ z. remaining_zones (z ∷ []) >>= alone) (λ z. z) (λ z. z) c.args.line.now
    c.zone_after_brace.new.line c.zone_after_brace.new.line c.in_err-zone.field-0.0 c.in_err-zone.ensures)

pub returns-in_err-zones : goal.returns-in_err-zones
unfolding first_zone_after_brace
returns-in_err-zones c =
    let z : Zone = c.in_ok-zone.zone in
    let pushed : c.push.new.self ≡ z ∷ [] = search rules in
    let p = err_from_is_err_and c.from_residual-in_err-zones.result c.from_residual-in_err-zones.ensures.1 in
    rw (p.1, p.2) (then_reads zone_after_brace (λ z. remaining_zones (z ∷ []) >>= alone) (λ z. z) c.args.line.now
    c.zone_after_brace.new.line c.remaining_zones.new.line z (Err c.in_err-zones.field-0.0) c.in_ok-zone.ensures
    (first_out_of_memory (remaining_zones (z ∷ [])) alone (λ z. z) (λ z. z) c.zone_after_brace.new.line c.remaining_zones.new.line c.remaining_zones.new.line c.in_err-zones.field-0.0 (subst (λ (zs : List Zone). ReadsOrOutOfMemory {X = List Zone} (λ zs. zs) (remaining_zones zs) c.zone_after_brace.new.line c.remaining_zones.new.line (Err c.in_err-zones.field-0.0)) pushed c.in_err-zones.ensures)))

pub returns : goal.returns
unfolding first_zone_after_brace
returns c =
    let z : Zone = c.in_ok-zone.zone in
    let zs : List Zone = c.in_ok-zones.zones in
    let pushed : c.push.new.self ≡ z ∷ [] = search rules in
    rw c.no_content.ensures (then_reads zone_after_brace (λ z. remaining_zones (z ∷ []) >>= alone) (λ z. z) c.args.line.now
    c.zone_after_brace.new.line c.remaining_zones.new.line z (Ok (no_content, zs)) c.in_ok-zone.ensures
    (then_reads (remaining_zones (z ∷ [])) alone (λ z. z) c.zone_after_brace.new.line c.remaining_zones.new.line
    c.remaining_zones.new.line zs (Ok (no_content, zs)) (rw pushed at c.in_ok-zones.ensures) (refl, refl)))
