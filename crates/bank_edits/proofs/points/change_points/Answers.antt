use Rattle.std.proofs.Common.{rules, FitsSigned, w8}
use Rattle.std.proofs.lemmas.Int.{to_z-of_z}
use Rattle.bank_edits.proofs.points.change_points.Goals as goal

pub set_tune-requires-clause-accepted : goal.set_tune-requires-clause-accepted
set_tune-requires-clause-accepted c =
    let fits : FitsSigned w8 c.in-SetTune.correction = search rules in
    rw (to_z-of_z w8 c.in-SetTune.correction fits) (rw c.in-SetTune.is at c.requires.accepted)

pub returns-clause-outcome : goal.returns-clause-outcome
returns-clause-outcome c =
    let fits : FitsSigned w8 c.in-SetTune.correction = search rules in
    rw c.in-SetTune.is (rw (to_z-of_z w8 c.in-SetTune.correction fits) at c.set_tune.ensures)
