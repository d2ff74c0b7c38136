use Rattle.std.proofs.Common.{arith}
use Rattle.bank_changes.proofs.PointLaws.{points_full, points_fit}
use Rattle.bank_core.proofs.KeptPoints.{sound_before, points_before}
use Rattle.bank_core.proofs.bank.Bank.broken_with_points.Goals as goal

pub overflow_sub-room : goal.overflow_sub-room
overflow_sub-room c =
    let sound = sound_before c.self.view_is c.self.invariant in
    let few = sound.valid.limits.points in
    let before = points_before c.self.view_is c.self.invariant in
    omega (arith, few, before)

pub returns-then-more-room : goal.returns-then-more-room
returns-then-more-room c = λ i front back lt many.
    let before = points_before c.self.view_is c.self.invariant in
    points_full c.args.self.now (sound_before c.self.view_is c.self.invariant) c.args.more i front back lt many
    (omega (arith, before, c.if-more-room.true))

pub returns : goal.returns
returns c = λ i front back lt many.
    let before = points_before c.self.view_is c.self.invariant in
    points_fit c.args.self.now (sound_before c.self.view_is c.self.invariant) c.args.more i front back lt many
    (omega (arith, before))
