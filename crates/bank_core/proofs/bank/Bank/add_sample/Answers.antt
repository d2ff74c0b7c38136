use Rattle.std.proofs.Common.{arith}
use Rattle.bank_changes.proofs.SampleLaws.{points_added}
use Rattle.bank_core.proofs.KeptPoints.{kept_then, points_before}
use Rattle.bank_core.proofs.bank.Bank.add_sample.Goals as goal

pub overflow_add-more : goal.overflow_add-more
overflow_add-more c =
    let points = points_added c.args.self.now c.args.number c.args.sample c.requires.place in
    let within = c.requires.sound.valid.limits.points in
    let len = c.len-more.ensures.value in
    omega (arith, points, within, len)

pub overflow_add-self : goal.overflow_add-self
overflow_add-self c =
    let points = points_added c.args.self.now c.args.number c.args.sample c.requires.place in
    let within = c.requires.sound.valid.limits.points in
    let len = c.len-more.ensures.value in
    let before = points_before c.self.view_is c.self.invariant in
    omega (arith, points, within, len, before)

pub invariant_of-self-2 : goal.invariant_of-self-2
invariant_of-self-2 c =
    let points = points_added c.args.self.now c.args.number c.args.sample c.requires.place in
    let len = c.len-more.ensures.value in
    let before = points_before c.self.view_is c.self.invariant in
    kept_then c.self.view_is c.self.invariant (rw c.self.view_is at c.in_ok-add_sample.ensures.ok) c.requires.sound
    (omega (arith, points, len, before))
