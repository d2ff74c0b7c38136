use Rattle.std.proofs.Common.{not}
use Rattle.sfbank.proofs.OutcomeLaws.{difference_put, difference_fails}
use Rattle.sfbank.specs.PlanParts.{Difference}
use Rattle.sfbank.specs.Prepared.{text_of_difference}
use Rattle.sfbank.proofs.program.diff.put_difference.Goals as goal

pub returns-in-Ok : goal.returns-in-Ok
returns-in-Ok g c =
    let d = c.in-Ok.ensures in
    difference_put (not c.args.paths.no_comments) c.args.paths.out.now c.args.first.now c.args.second.now _ _ _ c.put.result d.0
    (c.put.ensures (Difference (not c.args.paths.no_comments) c.args.first.now c.args.second.now) (d.1, d.2))

pub returns-in-Err : goal.returns-in-Err
returns-in-Err g c =
    difference_fails (not c.args.paths.no_comments) text_of_difference _ _ _ c.args.paths.out c.args.first.now c.args.second.now c.in-Err.fault c.in-Err.ensures
