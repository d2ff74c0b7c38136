use Rattle.std.proofs.Common.{arith}
use Rattle.bank_changes.proofs.PointLaws.{few_then, loop_then, room_then, points_extended}
use Rattle.bank_core.proofs.KeptPoints.{kept_then, points_before}
use Rattle.bank_core.proofs.bank.Bank.extend_sample.Goals as goal

pub overflow_add-more : goal.overflow_add-more
overflow_add-more c =
    let few = few_then c.args.self.now c.args.number c.args.front c.args.back c.requires.there c.requires.sound in
    omega (arith, few)

pub extend_sample-requires-clause-points : goal.extend_sample-requires-clause-points
extend_sample-requires-clause-points c =
    let few = few_then c.args.self.now c.args.number c.args.front c.args.back c.requires.there c.requires.sound in
    rw c.self.view_is (omega (arith, few))

pub extend_sample-requires-clause-looped : goal.extend_sample-requires-clause-looped
extend_sample-requires-clause-looped c =
    rw c.self.view_is
    (loop_then c.args.self.now c.args.number c.args.front c.args.back c.requires.there c.requires.sound)

pub overflow_add-self : goal.overflow_add-self
overflow_add-self c =
    let room =
    room_then c.args.self.now c.args.number c.args.front c.args.back c.requires.there c.requires.sound in
    let before = points_before c.self.view_is c.self.invariant in
    omega (arith, room, before)

pub invariant_of-self-2 : goal.invariant_of-self-2
invariant_of-self-2 c =
    let points = points_extended c.args.self.now c.args.number c.args.front c.args.back c.requires.there in
    let front = c.len.ensures.value in
    let back = c.len-2.ensures.value in
    let before = points_before c.self.view_is c.self.invariant in
    kept_then c.self.view_is c.self.invariant (rw c.self.view_is at c.in_ok-extend_sample.ensures.ok)
    c.requires.sound (omega (arith, points, front, back, before))
