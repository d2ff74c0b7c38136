use Rattle.std.proofs.Common.{◌∙◌, ◌+◌, length, ap, refl, arith}
use Rattle.std.proofs.lemmas.Result.{err_from_is_err_and}
use Rattle.script_tokens.specs.TokenValue.{values_over, line_values_over}
use Rattle.script_tokens.specs.Tokens.{tokens_of}
use Rattle.edit_script.specs.Script.{edit_of, edits_in}
use Rattle.script_tokens.proofs.PoolLaws.{lines_values_step, lines_values_end}
use Rattle.script_tokens.proofs.GatherLaws.{step_fails, lines_on, lines_stop, lines_over, length-lines_of}
use Rattle.edit_script.proofs.parsing.parse_lines.Goals as goal

pub loop-line-init : goal.loop-line-init
unfolding edits_in
loop-line-init c =
    let same = c.into_iter-line-iterator.ensures.into_iter_gives ∙ c.of-line-items.ensures in
    record {
      can_next =
          tt;
      is_finite =
          tt;
      left =
          rw (c.new-edits.ensures.items, same) refl;
      counted =
          rw same (let h = length-lines_of c.args.text.now in omega (arith, h));
    }

pub loop-line-preserved : goal.loop-line-preserved
loop-line-preserved c = record {
  can_next = tt;
  is_finite = tt;
  left =
      lines_on edit_of (c.loop-line.number + 1) (c.loop-line.number + 1 + 1) c.loop-line.edits.items
      c.add_edit.new.edits.items
      (values_over c.loop-line.rest.now (tokens_of c.in-Some.line.now))
      (line_values_over c.in_ok-rest.rest.now c.next.new.self)
      (line_values_over c.loop-line.rest.now c.loop-line.line-iterator) _
      (omega arith) (lines_values_step _ _ _ _ _ c.in_ok-rest.ensures.following c.in-Some.ensures.steps)
      c.loop-line.invariant.left c.in_ok-rest.ensures.added;
  counted = (let h = ap length c.in-Some.ensures.steps in let k = c.loop-line.invariant.counted in omega (arith, h, k));
}

pub returns-in_err-rest : goal.returns-in_err-rest
returns-in_err-rest c =
    let p = err_from_is_err_and c.from_residual.result c.from_residual.ensures.1 in
    rw (p.1, p.2) (step_fails _ _ _ c.in_err-rest.ensures.added
    (λ _ e. lines_stop edit_of (c.loop-line.number + 1) c.loop-line.edits.items
    (values_over c.loop-line.rest.now (tokens_of c.in-Some.line.now)) _
    (line_values_over c.loop-line.rest.now c.loop-line.line-iterator) _ _
    (lines_values_step _ _ _ c.next.new.self _ refl c.in-Some.ensures.steps) c.loop-line.invariant.left e))

pub returns : goal.returns
returns c =
    lines_over edit_of (c.loop-line.number + 1) c.loop-line.edits.items
    (line_values_over c.loop-line.rest.now c.loop-line.line-iterator) _
    (lines_values_end _ _ c.in-None.ensures.steps.0) c.loop-line.invariant.left
