use Rattle.std.proofs.Common.{◌≡◌, ◌∙◌, sym, ap, refl, List, [], rules}
use Rattle.std.proofs.lemmas.Result.{err_from_is_err_and}
use Rattle.edit_forms.specs.declared.step.Step.{Step}
use Rattle.script_grammar.proofs.MemoryLaws.{also_out_of_memory}
use Rattle.edit_script.specs.Grammar.{braced_step, with_step, remaining_steps}
use Rattle.edit_script.proofs.StepsLaws.{braced_shortens, steps_end, steps_go_on, steps_fail, over_is, not_over}
use Rattle.edit_script.proofs.ScriptLaws.{not_both}
use Rattle.edit_script.proofs.edits.remaining_steps.Goals as goal

pub loop-alloc-init : goal.loop-alloc-init
loop-alloc-init c = (ap (λ (ss : List Step). remaining_steps ss c.args.line.now.token_values) c.new-steps.ensures, refl)

pub returns-in_err-step : goal.returns-in_err-step
returns-in_err-step c =
    let p = err_from_is_err_and c.from_residual.result c.from_residual.ensures.1 in
    rw (p.1, p.2) (also_out_of_memory braced_step (remaining_steps []) (λ s. s) (λ ss. ss) c.loop-alloc.line c.args.line.now
    c.braced_step.new.line c.in_err-step.field-0.0
    (λ d e. sym c.loop-alloc.invariant.0 ∙ steps_fail c.loop-alloc.steps c.loop-alloc.line.token_values d
    (not_over c.loop-alloc.line.token_values (λ n. not_both (c.is_empty.ensures.1 n) c.loop-alloc-test.true))
    e) c.in_err-step.ensures)

pub loop-alloc-smaller : goal.loop-alloc-smaller
loop-alloc-smaller c = braced_shortens c.loop-alloc.line.token_values _ c.in_ok-step.ensures.0

pub loop-alloc-preserved : goal.loop-alloc-preserved
loop-alloc-preserved c =
    let on =
    steps_go_on c.loop-alloc.steps c.loop-alloc.line.token_values _
    (not_over c.loop-alloc.line.token_values (λ n. not_both (c.is_empty.ensures.1 n) c.loop-alloc-test.true))
    c.in_ok-step.ensures.0 in
    let pushed : c.push.new.self ≡ with_step c.loop-alloc.steps c.in_ok-step.step = search rules in (
      ap (λ (ss : List Step). remaining_steps ss c.braced_step.new.line.token_values) pushed ∙ sym on
          ∙ c.loop-alloc.invariant.0,
      c.in_ok-step.ensures.1 ∙ c.loop-alloc.invariant.1,
    )

pub returns : goal.returns
returns c = (
  sym c.loop-alloc.invariant.0
      ∙ steps_end c.loop-alloc.steps c.loop-alloc.line.token_values
      (over_is c.loop-alloc.line.token_values (c.is_empty.ensures.0 c.loop-alloc-test.false)),
  c.loop-alloc.invariant.1,
)
