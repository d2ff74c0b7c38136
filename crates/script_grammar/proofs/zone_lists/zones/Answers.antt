use Rattle.std.proofs.Common.{◌∙◌, refl, sym}
use Rattle.std.proofs.lemmas.Result.{err_from_is_err_and}
use Rattle.script_tokens.specs.Parsers.{◌>>=◌}
use Rattle.script_grammar.specs.Zones.{opened, zones_after_brace, zones}
use Rattle.script_grammar.proofs.ItemLaws.{zones_none, zones_some}
use Rattle.script_grammar.proofs.MemoryLaws.{first_fails, then_reads, reads_as}
use Rattle.script_grammar.proofs.zone_lists.zones.Goals as goal

pub returns-then-is_end : goal.returns-then-is_end
returns-then-is_end c = (
  rw (c.no_content.ensures, c.new.ensures)
      (zones_none c.args.line.now.token_values (sym c.is_end.ensures ∙ c.if-is_end.true)),
  refl,
)

pub returns-in_err-fixed : goal.returns-in_err-fixed
returns-in_err-fixed c =
    let p = err_from_is_err_and c.from_residual.result c.from_residual.ensures.1 in
    rw (p.1, p.2)
    (zones_some c.args.line.now.token_values (sym c.is_end.ensures ∙ c.if-is_end.false)
    ∙ first_fails opened (λ o. zones_after_brace) c.args.line.now c.in_err-fixed.field-0.0 c.in_err-fixed.ensures)

pub returns : goal.returns
returns c =
    reads_as (opened >>= λ o. zones_after_brace) zones (λ z. z) c.args.line.now c.zones_after_brace.new.line
    c.zones_after_brace.result (zones_some c.args.line.now.token_values (sym c.is_end.ensures ∙ c.if-is_end.false))
    (then_reads opened (λ o. zones_after_brace) (λ z. z) c.args.line.now c.fixed.new.line c.zones_after_brace.new.line tt
    c.zones_after_brace.result c.in_ok-fixed.ensures c.zones_after_brace.ensures)
