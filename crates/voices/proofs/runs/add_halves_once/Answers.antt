use Rattle.std.proofs.Common.{rules, ◌≡◌, ℤ, ℕ, pos, arith, get_or, ap, ◌∙◌, SFits}
use Rattle.std.proofs.lemmas.Int.{ints, to_z-of_z}
use Rattle.std.specs.Int.{w16, w32}
use Rattle.voices.specs.Panning.{side}
use Rattle.voices.specs.Runs.{IsAdded}
use Rattle.sound_envelopes.proofs.WriteLaws.{below_set, after_set}
use Rattle.voices.proofs.RunLaws.{added, is_added}
use Rattle.voices.proofs.runs.add_halves_once.Goals as goal

pub loop-k-preserved : goal.loop-k-preserved
loop-k-preserved c =
    let k = c.loop-k.k in
    let xs = c.loop-k.middle in
    let ys = c.args.middle.now in
    let run = c.args.run.now in
    let el : SFits w16 (get_or run k (pos 0)) = search rules in
    let z : c.from.result ≡ get_or run k (pos 0) = omega (arith, ints) in
    let fits : SFits w32 c.from.result = omega (arith, ints) in
    let half : c.halved.result ≡ side (get_or run k (pos 0)) 500 =
    (simp to_z-of_z at c.halved.ensures.value) ∙ ap (λ y. side y 500) z in
    let sum = added (get_or ys k (pos 0)) (get_or xs k (pos 0)) c.halved.result
    (c.loop-k.invariant.rest k (omega arith)) (c.requires.room k (omega (arith, c.requires.long)))
    c.halved.ensures.low c.halved.ensures.high in
    let P : ℕ → ℤ → Type 0 = λ i y. IsAdded (get_or ys i (pos 0)) (side (get_or run i (pos 0)) 500) y in
    record {
      done = below_set (pos 0) P xs k _ (omega (arith, c.requires.long, c.loop-k.auto.middle)) c.loop-k.invariant.done
          (is_added _ _ _ _ half sum c.halved.ensures.low c.halved.ensures.high);
      rest = after_set (pos 0) xs ys k _ c.loop-k.invariant.rest;
    }
