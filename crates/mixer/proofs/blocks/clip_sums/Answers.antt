use Rattle.std.proofs.Common.{rules, ◌≡◌, ◌+ℤ◌, ◌/◌, ℤ, pos, arith, get_or, to_z, of_z, SFits}
use Rattle.std.proofs.lemmas.Int.{ints, clamps}
use Rattle.std.specs.Int.{w16, w32}
use Rattle.sound_envelopes.proofs.WriteLaws.{below_set}
use Rattle.mixer.specs.StartFrames.{clipped}
use Rattle.mixer.proofs.blocks.clip_sums.Goals as goal

pub loop-i-preserved : goal.loop-i-preserved
loop-i-preserved c =
    let i = c.loop-i.i in
    let a : ℤ = get_or c.args.sums.now i (pos 0) in
    let b : ℤ = get_or c.args.middle.now (i / 2) (pos 0) in
    let fits-a : SFits w32 a = search rules in
    let fits-b : SFits w32 b = search rules in
    let p = c.requires.room i (omega arith) in
    let q = c.requires.middle_room (i / 2) (omega arith) in
    let m = c.min.ensures in
    let n = c.max.ensures in
    let here : to_z w16 (of_z w16 (to_z w32 (of_z w32 c.max.result))) ≡ clipped (a +ℤ b) =
    omega (arith, ints, clamps, p.0, p.1, q.0, q.1, m, n) in
    below_set (pos 0) (λ k y. y ≡ clipped (get_or c.args.sums.now k (pos 0) +ℤ get_or c.args.middle.now (k / 2) (pos 0)))
    c.loop-i.out i _ (omega arith) c.loop-i.invariant here
