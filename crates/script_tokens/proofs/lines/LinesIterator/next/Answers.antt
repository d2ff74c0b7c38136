use Rattle.std.proofs.Common.{◌∙◌, ◌<◌, length, sym, arith, eqb-true}
use Rattle.std.proofs.lemmas.Bool.{eqb-false}
use Rattle.script_tokens.proofs.LexLaws.{lines_empty, lines_at, fewer}
use Rattle.script_tokens.proofs.lines.LinesIterator.next.Goals as goal

pub returns-then-is_empty-clause-steps : goal.returns-then-is_empty-clause-steps
returns-then-is_empty-clause-steps c =
    let e =
    sym c.self.view_is
    ∙ lines_empty c.self.inside.rest.now (eqb-true _ _ (sym c.is_empty.ensures ∙ c.if-is_empty.true)) in
    (e, e)

pub returns-clause-steps : goal.returns-clause-steps
returns-clause-steps c =
    let some : 0 < length c.self.inside.rest.now =
    (let ne = eqb-false _ _ (sym c.is_empty.ensures ∙ c.if-is_empty.false) in omega (arith, ne)) in
    rw (c.front_of.ensures, c.bytes_after-self-inside.ensures)
    (sym c.self.view_is ∙ lines_at c.feed_at-end.result c.self.inside.rest.now some c.feed_at-end.ensures)

pub returns-clause-goes : goal.returns-clause-goes
returns-clause-goes c = record { on = λ _. (tt, tt, fewer _ _ _ (returns-clause-steps c)); keeps = tt; rests = λ _. tt }
