use Rattle.std.proofs.Common.{arith}
use Rattle.bank_changes.proofs.SampleLaws.{points_removed}
use Rattle.bank_core.proofs.KeptPoints.{kept_then, points_before, sound_before}
use Rattle.bank_core.proofs.bank.Bank.remove_sample.Goals as goal

pub overflow_add-self : goal.overflow_add-self
overflow_add-self c =
    let points =
    points_removed c.args.self.now c.args.number c.remove_sample-sample.result
    (rw c.self.view_is at c.remove_sample-sample.ensures.value) in
    let within = (sound_before c.self.view_is c.self.invariant).valid.limits.points in
    let len = c.len.ensures.value in
    omega (arith, points, within, len)

pub overflow_sub-self : goal.overflow_sub-self
overflow_sub-self c =
    let points =
    points_removed c.args.self.now c.args.number c.remove_sample-sample.result
    (rw c.self.view_is at c.remove_sample-sample.ensures.value) in
    let len = c.len.ensures.value in
    let before = points_before c.self.view_is c.self.invariant in
    omega (arith, points, len, before)

pub invariant_of-self : goal.invariant_of-self
invariant_of-self c =
    let points =
    points_removed c.args.self.now c.args.number c.remove_sample-sample.result
    (rw c.self.view_is at c.remove_sample-sample.ensures.value) in
    let len = c.len.ensures.value in
    let before = points_before c.self.view_is c.self.invariant in
    kept_then c.self.view_is c.self.invariant (rw c.self.view_is at c.remove_sample-sample.ensures.change)
    c.requires.sound (omega (arith, points, len, before))
