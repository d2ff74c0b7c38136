use Rattle.std.proofs.Common.{arith, Bor, ℕ, List, []}
use Rattle.sample_view.proofs.PositionLaws.{run-found}
use Rattle.sample_view.proofs.RunLaws.{get_or-run_here}
use Rattle.sample_view.proofs.points.Points.slice_at.Goals as goal

pub returns-clause-run : goal.returns-clause-run
returns-clause-run c =
    let pieces = c.pieces-pieces.ensures in
    let found = c.cut_at-cut.ensures in
    let none : Bor (List ℕ) = record { ref_ptr = (0, 0); now = [] } in
    let within = found.inside none in
    rw (← pieces.points)
    (run-found _ _ _ _ none pieces.whole found.cut.there found.cut.sum (omega (arith, within)))

pub returns-clause-point : goal.returns-clause-point
returns-clause-point c = get_or-run_here _ _ _ _ (returns-clause-run c)
