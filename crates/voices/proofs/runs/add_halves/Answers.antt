use Rattle.std.proofs.Common.{rules, ◌≡◌, ◌≢◌, ℕ, ◌+◌, ◌*◌, ◌/◌, ◌<◌, ◌+ℤ◌, ℤ, pos, arith, get_or, set, length, ap}
use Rattle.std.proofs.Common.{◌∙◌, refl, to_z, of_z, SFits, get_or-set_other}
use Rattle.std.proofs.lemmas.Int.{ints, to_z-of_z}
use Rattle.std.specs.Int.{w16, w32}
use Rattle.std.proofs.lemmas.Grind.{common_steps}
use Rattle.voices.specs.Panning.{side}
use Rattle.voices.specs.Runs.{IsAdded}
use Rattle.sound_envelopes.proofs.WriteLaws.{below_set, after_set}
use Rattle.voices.proofs.RunLaws.{added, is_added}
use Rattle.voices.proofs.runs.add_halves.Goals as goal

pub overflow_add-sums-in-loop-k-2 : goal.overflow_add-sums-in-loop-k-2
overflow_add-sums-in-loop-k-2 c =
    let k = c.loop-k.k in
    let ne : 2 * k + 1 ≢ 2 * k = omega arith in
    let x =
    to_z w32
    (of_z w32
    (to_z w32 (of_z w32 (get_or c.loop-k.sums (2 * k) (pos 0)))
    +ℤ to_z w32 (of_z w32 c.halved-half.result)))
    in
    let o : get_or (set c.loop-k.sums (2 * k) x) (2 * k + 1) (pos 0) ≡ get_or c.loop-k.sums (2 * k + 1) (pos 0) =
    (rw get_or-set_other refl) in
    let was = c.loop-k.invariant.rest (2 * k + 1) (omega arith) in
    let room = c.requires.room (2 * k + 1) (omega (arith, c.requires.long)) in
    omega (arith, ints, o, was, room.0, room.1, c.halved-half.ensures.low, c.halved-half.ensures.high)

pub loop-k-preserved : goal.loop-k-preserved
loop-k-preserved c =
    let k = c.loop-k.k in
    let xs = c.loop-k.sums in
    let ys = c.args.sums.now in
    let run = c.args.run.now in
    let el : SFits w16 (get_or run k (pos 0)) = search rules in
    let z : c.from.result ≡ get_or run k (pos 0) = omega (arith, ints) in
    let fits : SFits w32 c.from.result = omega (arith, ints) in
    let half : c.halved-half.result ≡ side (get_or run k (pos 0)) 500 =
    (simp to_z-of_z at c.halved-half.ensures.value) ∙ ap (λ y. side y 500) z in
    let x : ℤ =
    to_z w32
    (of_z w32 (to_z w32 (of_z w32 (get_or xs (2 * k) (pos 0))) +ℤ to_z w32 (of_z w32 c.halved-half.result)))
    in
    let ne : 2 * k + 1 ≢ 2 * k = omega arith in
    let o : get_or (set xs (2 * k) x) (2 * k + 1) (pos 0) ≡ get_or xs (2 * k + 1) (pos 0) =
    (rw get_or-set_other refl) in
    let long : 2 * k + 1 < length (set xs (2 * k) x) =
    grind (arith, common_steps, c.requires.long, c.loop-k.auto.sums) in
    let first = added (get_or ys (2 * k) (pos 0)) (get_or xs (2 * k) (pos 0)) c.halved-half.result
    (c.loop-k.invariant.rest (2 * k) (omega arith)) (c.requires.room (2 * k) (omega (arith, c.requires.long)))
    c.halved-half.ensures.low c.halved-half.ensures.high in
    let second =
    added (get_or ys (2 * k + 1) (pos 0)) (get_or (set xs (2 * k) x) (2 * k + 1) (pos 0)) c.halved-half.result
    (o ∙ c.loop-k.invariant.rest (2 * k + 1) (omega arith))
    (c.requires.room (2 * k + 1) (omega (arith, c.requires.long))) c.halved-half.ensures.low
    c.halved-half.ensures.high in
    let P : ℕ → ℤ → Type 0 = λ i y. IsAdded (get_or ys i (pos 0)) (side (get_or run (i / 2) (pos 0)) 500) y in
    let one = below_set (pos 0) P xs (2 * k) x (omega (arith, c.requires.long)) c.loop-k.invariant.done
    (is_added _ _ _ _ (half ∙ ap (λ j. side (get_or run j (pos 0)) 500) (let e : k ≡ 2 * k / 2 = omega arith in e))
    first c.halved-half.ensures.low c.halved-half.ensures.high)
    in
    let two = below_set (pos 0) P (set xs (2 * k) x) (2 * k + 1) _ (omega (arith, long)) one
    (is_added _ _ _ _
    (half ∙ ap (λ j. side (get_or run j (pos 0)) 500) (let e : k ≡ (2 * k + 1) / 2 = omega arith in e))
    second c.halved-half.ensures.low c.halved-half.ensures.high)
    in
    record {
      done = λ i h. two i (omega arith);
      rest =
          λ i h.
          after_set (pos 0) (set xs (2 * k) x) ys (2 * k + 1) _
          (after_set (pos 0) xs ys (2 * k) x c.loop-k.invariant.rest) i (omega arith);
    }
