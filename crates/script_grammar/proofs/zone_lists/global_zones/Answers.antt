use Rattle.std.proofs.Common.{Ok, Err, List, [], subst, refl}
use Rattle.std.proofs.lemmas.Result.{err_from_is_err_and}
use Rattle.bank_parts.specs.declared.parts.GlobalZone.{GlobalZone}
use Rattle.bank_parts.specs.declared.parts.Zone.{Zone}
use Rattle.script_tokens.specs.Parsers.{Parser, ◌>>=◌, pure}
use Rattle.script_grammar.specs.Memory.{ReadsOrOutOfMemory}
use Rattle.script_grammar.specs.Items.{items}
use Rattle.script_grammar.specs.Zones.{remaining_zones, global_zones}
use Rattle.script_grammar.proofs.MemoryLaws.{first_out_of_memory, then_reads}
use Rattle.script_grammar.proofs.zone_lists.global_zones.Goals as goal

abbrev beside : GlobalZone → List Zone → Parser (GlobalZone × List Zone)
beside g zs = pure (g, zs)

pub returns-in_err-global : goal.returns-in_err-global
unfolding global_zones
returns-in_err-global c =
    let p = err_from_is_err_and c.from_residual.result c.from_residual.ensures.1 in
    rw (p.1, p.2)
    (first_out_of_memory items (λ g. remaining_zones [] >>= beside g) (λ z. z) (λ z. z) c.args.line.now c.items.new.line
    c.items.new.line c.in_err-global.field-0.0 c.in_err-global.ensures)

pub returns-in_err-zones : goal.returns-in_err-zones
unfolding global_zones
returns-in_err-zones c =
    let g : GlobalZone = c.in_ok-global.global in
    let p = err_from_is_err_and c.from_residual-in_err-zones.result c.from_residual-in_err-zones.ensures.1 in
    rw (p.1, p.2) (then_reads items (λ g. remaining_zones [] >>= beside g) (λ z. z) c.args.line.now c.items.new.line
    c.remaining_zones.new.line g (Err c.in_err-zones.field-0.0) c.in_ok-global.ensures
    (first_out_of_memory (remaining_zones []) (beside g) (λ z. z) (λ z. z) c.items.new.line c.remaining_zones.new.line c.remaining_zones.new.line c.in_err-zones.field-0.0 (subst (λ (zs : List Zone). ReadsOrOutOfMemory {X = List Zone} (λ zs. zs) (remaining_zones zs) c.items.new.line c.remaining_zones.new.line (Err c.in_err-zones.field-0.0)) c.new.ensures c.in_err-zones.ensures)))

pub returns : goal.returns
unfolding global_zones
returns c =
    let g : GlobalZone = c.in_ok-global.global in
    let zs : List Zone = c.in_ok-zones.zones in
    then_reads items (λ g. remaining_zones [] >>= beside g) (λ z. z) c.args.line.now c.items.new.line
    c.remaining_zones.new.line g (Ok (g, zs)) c.in_ok-global.ensures
    (then_reads (remaining_zones []) (beside g) (λ z. z) c.items.new.line c.remaining_zones.new.line c.remaining_zones.new.line zs
    (Ok (g, zs)) (rw c.new.ensures at c.in_ok-zones.ensures) (refl, refl))
