use Rattle.std.proofs.lemmas.Result.{err_from_is_err_and}
use Rattle.script_grammar.specs.Zones.{opened, zone_after_brace, zone}
use Rattle.script_grammar.proofs.MemoryLaws.{first_fails, then_reads}
use Rattle.script_grammar.proofs.zone_lists.zone.Goals as goal

pub returns-in_err-fixed : goal.returns-in_err-fixed
unfolding zone
returns-in_err-fixed c =
    let p = err_from_is_err_and c.from_residual.result c.from_residual.ensures.1 in
    rw (p.1, p.2)
    (first_fails opened (λ o. zone_after_brace) c.args.line.now c.in_err-fixed.field-0.0 c.in_err-fixed.ensures)

pub returns : goal.returns
unfolding zone
returns c =
    then_reads opened (λ o. zone_after_brace) (λ z. z) c.args.line.now c.fixed.new.line c.zone_after_brace.new.line tt
    c.zone_after_brace.result c.in_ok-fixed.ensures c.zone_after_brace.ensures
