use Rattle.std.proofs.Common.{◌∙◌, [], sym, arith}
use Rattle.riff_chunks.proofs.WalkLaws.{walk-short, walk-cut, walk-next, fewer}
use Rattle.riff_chunks.proofs.chunks.ChunksIterator.next.Goals as goal

pub returns-then-window-lt-HEAD_LENGTH-clause-steps : goal.returns-then-window-lt-HEAD_LENGTH-clause-steps
returns-then-window-lt-HEAD_LENGTH-clause-steps c =
    let none = sym c.self.view_is ∙ walk-short _ c.if-window-lt-HEAD_LENGTH.true in (none, none)

pub returns-then-not-body_fits-clause-steps : goal.returns-then-not-body_fits-clause-steps
returns-then-not-body_fits-clause-steps c =
    rw (walk-short [] (omega arith))
    (sym c.self.view_is
    ∙ walk-cut _ c.if-window-lt-HEAD_LENGTH.false (sym c.body_fits.ensures ∙ c.if-not-body_fits.true))

pub returns-then-not-body_fits-clause-goes : goal.returns-then-not-body_fits-clause-goes
returns-then-not-body_fits-clause-goes c =
    record
    { on = λ _. (tt, tt, fewer _ _ _ (returns-then-not-body_fits-clause-steps c)); keeps = tt; rests = λ _. tt }

pub returns-clause-steps : goal.returns-clause-steps
returns-clause-steps c =
    sym c.self.view_is
    ∙ walk-next _ _ _ _ _ c.if-window-lt-HEAD_LENGTH.false (sym c.body_fits.ensures ∙ c.if-not-body_fits.false)
    c.u32_at-size.ensures c.front_id.ensures c.part_of-body.ensures c.rest_from-self-inside.ensures

pub returns-clause-goes : goal.returns-clause-goes
returns-clause-goes c = record { on = λ _. (tt, tt, fewer _ _ _ (returns-clause-steps c)); keeps = tt; rests = λ _. tt }
