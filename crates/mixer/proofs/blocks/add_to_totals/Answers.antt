use Rattle.std.proofs.Common.{rules, ◌≡◌, ◌+ℤ◌, ◌/◌, ℤ, pos, arith, get_or, to_z, of_z, SFits}
use Rattle.std.proofs.lemmas.Int.{ints}
use Rattle.std.specs.Int.{w32, w128}
use Rattle.sound_envelopes.proofs.WriteLaws.{below_set, after_set}
use Rattle.mixer.proofs.blocks.add_to_totals.Goals as goal

pub overflow_add-totals-in-loop-i : goal.overflow_add-totals-in-loop-i
overflow_add-totals-in-loop-i c =
    let i = c.loop-i.i in
    let a : ℤ = get_or c.args.sides.now i (pos 0) in
    let b : ℤ = get_or c.args.middle.now (i / 2) (pos 0) in
    let was = c.loop-i.invariant.left i (omega arith) in
    let room = c.requires.room i (omega arith) in
    let fits-a : SFits w32 a = search rules in
    let fits-b : SFits w32 b = search rules in
    omega (arith, ints, was, room.0, room.1, c.from-side.ensures, c.from-both.ensures, fits-a, fits-b)

pub loop-i-preserved : goal.loop-i-preserved
loop-i-preserved c =
    let i = c.loop-i.i in
    let a : ℤ = get_or c.args.sides.now i (pos 0) in
    let b : ℤ = get_or c.args.middle.now (i / 2) (pos 0) in
    let was = c.loop-i.invariant.left i (omega arith) in
    let room = c.requires.room i (omega arith) in
    let fits-a : SFits w32 a = search rules in
    let fits-b : SFits w32 b = search rules in
    let here : to_z w128
    (of_z w128
    (to_z w128 (of_z w128 (get_or c.loop-i.totals i (pos 0)))
    +ℤ to_z w128
    (of_z w128 (to_z w128 (of_z w128 c.from-side.result) +ℤ to_z w128 (of_z w128 c.from-both.result)))))
    ≡ get_or c.args.totals.now i (pos 0) +ℤ (a +ℤ b) =
    omega (arith, ints, was, room.0, room.1, c.from-side.ensures, c.from-both.ensures, fits-a, fits-b) in
    record {
      done =
          below_set (pos 0)
          (λ k y.
          y
          ≡ get_or c.args.totals.now k (pos 0)
          +ℤ (get_or c.args.sides.now k (pos 0) +ℤ get_or c.args.middle.now (k / 2) (pos 0)))
          c.loop-i.totals i _ (omega arith) c.loop-i.invariant.done here;
      left = after_set (pos 0) c.loop-i.totals c.args.totals.now i _ c.loop-i.invariant.left;
    }
