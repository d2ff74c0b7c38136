use Rattle.std.proofs.Common.{◌∙◌, sym, ap, refl}
use Rattle.std.proofs.lemmas.Result.{err_from_is_err_and}
use Rattle.bank_parts.specs.declared.parts.GlobalZone.{GlobalZone}
use Rattle.script_tokens.specs.Parsers.{word, pure}
use Rattle.script_grammar.specs.Items.{items, items_on, closed}
use Rattle.script_grammar.proofs.ItemLaws.{item_shortens, items_end, items_go_on, items_fail}
use Rattle.script_grammar.proofs.MemoryLaws.{first_fails, first_read}
use Rattle.script_grammar.proofs.items.items.Goals as goal

pub loop-line-init : goal.loop-line-init
unfolding items
loop-line-init c = (ap (λ (z : GlobalZone). items_on z c.args.line.now.token_values) c.no_content-content.ensures, refl)

pub loop-line-smaller : goal.loop-line-smaller
loop-line-smaller c = item_shortens c.loop-line.line.token_values _ c.in_ok-item.ensures.0

pub loop-line-preserved : goal.loop-line-preserved
loop-line-preserved c =
    let on =
    items_go_on c.loop-line.content c.loop-line.line.token_values _ (sym c.is_next.ensures ∙ c.loop-line-test.true)
    c.in_ok-item.ensures.0 in (
      ap (λ (z : GlobalZone). items_on z c.an_item.new.line.token_values) c.in_ok-add_item.ensures ∙ sym on
          ∙ c.loop-line.invariant.0,
      c.in_ok-item.ensures.1 ∙ c.loop-line.invariant.1,
    )

pub returns-in_err-item : goal.returns-in_err-item
returns-in_err-item c =
    let p = err_from_is_err_and c.from_residual.result c.from_residual.ensures.1 in
    rw (p.1, p.2)
    (sym c.loop-line.invariant.0
    ∙ items_fail c.loop-line.content c.loop-line.line.token_values _ (sym c.is_next.ensures ∙ c.loop-line-test.true)
    c.in_err-item.ensures)

pub returns : goal.returns
unfolding closed
returns c =
    let end = items_end c.loop-line.content c.loop-line.line.token_values (sym c.is_next.ensures ∙ c.loop-line-test.false) in (
      sym c.loop-line.invariant.0 ∙ end
          ∙ first_read word (λ w. pure c.loop-line.content) c.loop-line.line c.word.new.self _ c.in_ok-word.ensures.0,
      c.in_ok-word.ensures.1
          ∙ c.loop-line.invariant.1,
    )

pub returns-in_err-word : goal.returns-in_err-word
unfolding closed
returns-in_err-word c =
    let p = err_from_is_err_and c.from_residual-in_err-word.result c.from_residual-in_err-word.ensures.1 in
    let end = items_end c.loop-line.content c.loop-line.line.token_values (sym c.is_next.ensures ∙ c.loop-line-test.false) in
    rw (p.1, p.2)
    (sym c.loop-line.invariant.0 ∙ end
    ∙ first_fails word (λ w. pure c.loop-line.content) c.loop-line.line _ c.in_err-word.ensures)
