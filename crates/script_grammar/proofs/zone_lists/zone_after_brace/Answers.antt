use Rattle.std.proofs.Common.{Ok, Err, ℕ, refl}
use Rattle.std.proofs.lemmas.Result.{err_from_is_err_and}
use Rattle.bank_parts.specs.declared.parts.GlobalZone.{GlobalZone}
use Rattle.bank_parts.specs.declared.parts.Zone.{Zone}
use Rattle.script_tokens.specs.Parsers.{Parser, ◌>>=◌, pure, most_word, number}
use Rattle.script_grammar.specs.Items.{items}
use Rattle.script_grammar.specs.Zones.{zone_after_brace, zone_of}
use Rattle.script_grammar.proofs.MemoryLaws.{first_fails, first_out_of_memory, then_reads}
use Rattle.script_grammar.proofs.zone_lists.zone_after_brace.Goals as goal

abbrev made : ℕ → GlobalZone → Parser Zone
made target content = pure (zone_of target content)

pub returns-in_err-target : goal.returns-in_err-target
unfolding zone_after_brace
returns-in_err-target c =
    let p = err_from_is_err_and c.from_residual.result c.from_residual.ensures.1 in
    rw (p.1, p.2)
    (first_fails (number most_word) (λ target. items >>= made target) c.args.line.now c.in_err-target.field-0.0
    (rw c.from.ensures at c.in_err-target.ensures.reads))

pub returns-in_err-content : goal.returns-in_err-content
unfolding zone_after_brace
returns-in_err-content c =
    let p = err_from_is_err_and c.from_residual-in_err-content.result c.from_residual-in_err-content.ensures.1 in
    rw (p.1, p.2) (then_reads (number most_word) (λ target. items >>= made target) (λ z. z) c.args.line.now
    c.number.new.self c.items.new.line c.in_ok-target.field-0 (Err c.in_err-content.field-0.0)
    (rw c.from.ensures at c.in_ok-target.ensures.reads)
    (first_out_of_memory items (made c.in_ok-target.field-0) (λ z. z) (λ z. z) c.number.new.self c.items.new.line
    c.items.new.line c.in_err-content.field-0.0 c.in_err-content.ensures))

pub returns : goal.returns
unfolding zone_after_brace
returns c =
    let content : GlobalZone = c.in_ok-content.content in
    rw c.into_zone.ensures
    (then_reads (number most_word) (λ target. items >>= made target) (λ z. z) c.args.line.now c.number.new.self
    c.items.new.line c.in_ok-target.field-0 (Ok (zone_of c.in_ok-target.field-0 content))
    (rw c.from.ensures at c.in_ok-target.ensures.reads)
    (then_reads items (made c.in_ok-target.field-0) (λ z. z) c.number.new.self c.items.new.line c.items.new.line
    content (Ok (zone_of c.in_ok-target.field-0 content)) c.in_ok-content.ensures (refl, refl)))
