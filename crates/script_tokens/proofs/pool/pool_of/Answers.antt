use Rattle.std.proofs.Common.{◌∙◌, ◌+◌, length, map, ap, refl, arith}
use Rattle.std.proofs.lemmas.Result.{err_from_is_err_and}
use Rattle.script_tokens.specs.TokenValue.{values_in}
use Rattle.script_tokens.specs.Pool.{literals_of, pool_bytes}
use Rattle.script_tokens.proofs.GatherLaws.{step_fails, lines_on, lines_stop, lines_over, length-lines_of}
use Rattle.script_tokens.proofs.pool.pool_of.Goals as goal

pub loop-line-init : goal.loop-line-init
unfolding pool_bytes
loop-line-init c =
    let same = c.into_iter-line-iterator.ensures.into_iter_gives ∙ c.of-line-items.ensures in
    record {
      can_next =
          tt;
      is_finite =
          tt;
      left =
          rw (c.new-pool.ensures.items, same) refl;
      counted =
          rw same (let h = length-lines_of c.args.text.now in omega (arith, h));
    }

pub loop-line-preserved : goal.loop-line-preserved
loop-line-preserved c = record {
  can_next = tt;
  is_finite = tt;
  left =
      lines_on literals_of (c.loop-line.number + 1) (c.loop-line.number + 1 + 1) c.loop-line.pool.items
      c.add_literals.new.pool.items
      (values_in c.in-Some.line.now) (map values_in c.next.new.self) (map values_in c.loop-line.line-iterator) _
      (omega arith) (ap (map values_in) c.in-Some.ensures.steps) c.loop-line.invariant.left c.in_ok-add_literals.ensures;
  counted = (let h = ap length c.in-Some.ensures.steps in let k = c.loop-line.invariant.counted in omega (arith, h, k));
}

pub returns-in_err-add_literals : goal.returns-in_err-add_literals
returns-in_err-add_literals c =
    let p = err_from_is_err_and c.from_residual.result c.from_residual.ensures.1 in
    rw (p.1, p.2) (step_fails _ _ _ c.in_err-add_literals.ensures
    (λ _ e. lines_stop literals_of (c.loop-line.number + 1) c.loop-line.pool.items
    (values_in c.in-Some.line.now) (map values_in c.next.new.self) (map values_in c.loop-line.line-iterator) _ _
    (ap (map values_in) c.in-Some.ensures.steps) c.loop-line.invariant.left e))

pub returns : goal.returns
returns c =
    lines_over literals_of (c.loop-line.number + 1) c.loop-line.pool.items (map values_in c.loop-line.line-iterator) _
    (ap (map values_in) c.in-None.ensures.steps.0) c.loop-line.invariant.left
