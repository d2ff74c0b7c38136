use Rattle.std.proofs.Common.{rules, ◌≡◌, ◌≢◌, ℕ, ◌+◌, ◌*◌, ◌/◌, ◌%◌, ◌<◌, ◌≤◌, ◌+ℤ◌, ◌≤ℤ◌, ℤ, pos, negsuc, arith}
use Rattle.std.proofs.Common.{get_or, set, cond, nat_eq, length, ap, sym, ◌∙◌, refl, to_z, of_z, SFits}
use Rattle.std.proofs.Common.{get_or-set_other}
use Rattle.std.proofs.lemmas.Int.{ints, to_z-of_z}
use Rattle.std.specs.Int.{w16, w32}
use Rattle.std.proofs.lemmas.Grind.{common_steps}
use Rattle.voices.specs.Panning.{side}
use Rattle.voices.specs.Runs.{IsAdded}
use Rattle.voices.proofs.PanningLaws.{side_within}
use Rattle.sound_envelopes.proofs.WriteLaws.{below_set, after_set}
use Rattle.voices.proofs.RunLaws.{added, is_added, left_side, right_side}
use Rattle.voices.proofs.runs.add_both_sides.Goals as goal

-- a side's share of a frame, whichever way it was read
record Part (z : ℤ) (part : ℕ) (r : ℤ) : Type 0 where
  is : r ≡ side z part
  low : negsuc 32767 ≤ℤ r
  high : r ≤ℤ pos 32767

part_of_point : (z r : ℤ) (part : ℕ) → part ≤ 1000 → SFits w16 z → r ≡ side (to_z w16 (of_z w16 z)) part → Part z part r
part_of_point z r part most f e =
    let is : r ≡ side z part = e ∙ ap (λ y. side y part) (to_z-of_z w16 z f) in
    let b = side_within z part most (omega (arith, ints, f)) (omega (arith, ints, f)) in
    record { is = is; low = omega (arith, ints, is, b.0); high = omega (arith, ints, is, b.1) }

pub overflow_add-sums : goal.overflow_add-sums
overflow_add-sums c =
    let k = c.loop-k.k in
    let el : SFits w16 (get_or c.args.run.now k (pos 0)) = search rules in
    let left = part_of_point (get_or c.args.run.now k (pos 0)) c.finely_panned.result c.args.left c.requires.parts.0 el
    (c.finely_panned.ensures c.args.left c.requires.parts.0 c.fine_part-fine_left.ensures.high
    c.fine_part-fine_left.ensures.low)
    in
    let low = left.low in
    let high = left.high in
    let was = c.loop-k.invariant.rest (2 * k) (omega arith) in
    let room = c.requires.room (2 * k) (omega (arith, c.requires.long)) in
    omega (arith, ints, was, room.0, room.1, low, high)

pub overflow_add-sums-in-loop-k-2 : goal.overflow_add-sums-in-loop-k-2
overflow_add-sums-in-loop-k-2 c =
    let k = c.loop-k.k in
    let ne : 2 * k + 1 ≢ 2 * k = omega arith in
    let el : SFits w16 (get_or c.args.run.now k (pos 0)) = search rules in
    let right =
    part_of_point (get_or c.args.run.now k (pos 0)) c.finely_panned-in-loop-k.result c.args.right
    c.requires.parts.1 el
    (c.finely_panned-in-loop-k.ensures c.args.right c.requires.parts.1 c.fine_part-fine_right.ensures.high
    c.fine_part-fine_right.ensures.low)
    in
    let low = right.low in
    let high = right.high in
    let x =
    to_z w32
    (of_z w32
    (to_z w32 (of_z w32 (get_or c.loop-k.sums (2 * k) (pos 0)))
    +ℤ to_z w32 (of_z w32 c.finely_panned.result)))
    in
    let o : get_or (set c.loop-k.sums (2 * k) x) (2 * k + 1) (pos 0) ≡ get_or c.loop-k.sums (2 * k + 1) (pos 0) =
    (rw get_or-set_other refl) in
    let was = c.loop-k.invariant.rest (2 * k + 1) (omega arith) in
    let room = c.requires.room (2 * k + 1) (omega (arith, c.requires.long)) in
    omega (arith, ints, o, was, room.0, room.1, low, high)

pub loop-k-preserved : goal.loop-k-preserved
loop-k-preserved c =
    let k = c.loop-k.k in
    let xs = c.loop-k.sums in
    let ys = c.args.sums.now in
    let run = c.args.run.now in
    let el : SFits w16 (get_or run k (pos 0)) = search rules in
    let left = part_of_point (get_or run k (pos 0)) c.finely_panned.result c.args.left c.requires.parts.0 el
    (c.finely_panned.ensures c.args.left c.requires.parts.0 c.fine_part-fine_left.ensures.high
    c.fine_part-fine_left.ensures.low)
    in
    let right = part_of_point (get_or run k (pos 0)) c.finely_panned-in-loop-k.result c.args.right c.requires.parts.1 el
    (c.finely_panned-in-loop-k.ensures c.args.right c.requires.parts.1 c.fine_part-fine_right.ensures.high
    c.fine_part-fine_right.ensures.low)
    in
    let x : ℤ =
    to_z w32
    (of_z w32 (to_z w32 (of_z w32 (get_or xs (2 * k) (pos 0))) +ℤ to_z w32 (of_z w32 c.finely_panned.result)))
    in
    let ne : 2 * k + 1 ≢ 2 * k = omega arith in
    let o : get_or (set xs (2 * k) x) (2 * k + 1) (pos 0) ≡ get_or xs (2 * k + 1) (pos 0) =
    (rw get_or-set_other refl) in
    let long : 2 * k + 1 < length (set xs (2 * k) x) =
    grind (arith, common_steps, c.requires.long, c.loop-k.auto.sums) in
    let first = added (get_or ys (2 * k) (pos 0)) (get_or xs (2 * k) (pos 0)) c.finely_panned.result
    (c.loop-k.invariant.rest (2 * k) (omega arith)) (c.requires.room (2 * k) (omega (arith, c.requires.long)))
    left.low left.high in
    let second =
    added (get_or ys (2 * k + 1) (pos 0)) (get_or (set xs (2 * k) x) (2 * k + 1) (pos 0))
    c.finely_panned-in-loop-k.result
    (o ∙ c.loop-k.invariant.rest (2 * k + 1) (omega arith))
    (c.requires.room (2 * k + 1) (omega (arith, c.requires.long))) right.low right.high in
    let P : ℕ → ℤ → Type 0 =
    λ i y.
    IsAdded (get_or ys i (pos 0))
    (side (get_or run (i / 2) (pos 0)) (cond (nat_eq (i % 2) 0) c.args.left c.args.right)) y in
    let one = below_set (pos 0) P xs (2 * k) x (omega (arith, c.requires.long)) c.loop-k.invariant.done
    (is_added _ _ _ _ (left.is ∙ sym (left_side run k c.args.left c.args.right)) first left.low left.high) in
    let two = below_set (pos 0) P (set xs (2 * k) x) (2 * k + 1) _ (omega (arith, long)) one
    (is_added _ _ _ _ (right.is ∙ sym (right_side run k c.args.left c.args.right)) second right.low right.high) in
    record {
      done = λ i h. two i (omega arith);
      rest =
          λ i h.
          after_set (pos 0) (set xs (2 * k) x) ys (2 * k + 1) _
          (after_set (pos 0) xs ys (2 * k) x c.loop-k.invariant.rest) i (omega arith);
    }
