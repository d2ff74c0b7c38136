use Rattle.std.proofs.Common.{map, ap}
use Rattle.std.proofs.lemmas.Result.{err_from_is_err_and}
use Rattle.script_tokens.specs.TokenValue.{token_value}
use Rattle.script_tokens.proofs.GatherLaws.{step_fails, all_added, literals_stop, literals_over}
use Rattle.script_tokens.proofs.pool.add_literals.Goals as goal

pub loop-token-preserved : goal.loop-token-preserved
loop-token-preserved c = record {
  can_next = tt;
  is_finite = tt;
  left =
      all_added c.args.number c.loop-token.pool.items c.add_literal.new.pool.items (token_value c.in-Some.token)
      (map token_value c.next.new.self) (map token_value c.loop-token.token-iterator) _
      (ap (map token_value) c.in-Some.ensures.steps) c.loop-token.invariant.left c.in_ok-add_literal.ensures;
}

pub returns-in_err-add_literal : goal.returns-in_err-add_literal
returns-in_err-add_literal c =
    let p = err_from_is_err_and c.from_residual.result c.from_residual.ensures.1 in
    rw (p.1, p.2) (step_fails _ _ _ c.in_err-add_literal.ensures (λ _ e. literals_stop c.args.number
    c.loop-token.pool.items (token_value c.in-Some.token) (map token_value c.next.new.self)
    (map token_value c.loop-token.token-iterator) _ _
    (ap (map token_value) c.in-Some.ensures.steps) c.loop-token.invariant.left e))

pub returns : goal.returns
returns c =
    literals_over c.args.number c.loop-token.pool.items (map token_value c.loop-token.token-iterator) _
    (ap (map token_value) c.in-None.ensures.steps.0) c.loop-token.invariant.left
