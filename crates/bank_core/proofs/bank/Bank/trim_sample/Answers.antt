use Rattle.std.proofs.Common.{arith}
use Rattle.bank_changes.proofs.PointLaws.{had_points, points_trimmed}
use Rattle.bank_core.proofs.KeptPoints.{kept_then, points_before}
use Rattle.bank_core.proofs.bank.Bank.trim_sample.Goals as goal

pub overflow_sub-self : goal.overflow_sub-self
overflow_sub-self c =
    let had =
    had_points c.args.self.now c.args.number c.args.front c.args.back c.requires.there c.requires.points in
    let before = points_before c.self.view_is c.self.invariant in
    omega (arith, had, before)

pub invariant_of-self-2 : goal.invariant_of-self-2
invariant_of-self-2 c =
    let points =
    points_trimmed c.args.self.now c.args.number c.args.front c.args.back c.requires.there c.requires.points in
    let before = points_before c.self.view_is c.self.invariant in
    kept_then c.self.view_is c.self.invariant (rw c.self.view_is at c.in_ok-cut.ensures.ok) c.requires.sound
    (omega (arith, points, before))
