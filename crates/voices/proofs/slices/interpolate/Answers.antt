use Rattle.std.proofs.Common.{◌≡◌, ◌+◌, ◌*◌, ◌%◌, pos, arith, get_or, ap, ◌∙◌, to_z, of_z}
use Rattle.std.proofs.lemmas.Int.{ints}
use Rattle.std.proofs.lemmas.Nat.{and_mask}
use Rattle.std.specs.Int.{w16, w32}
use Rattle.voices.specs.Runs.{interpolated_pair}
use Rattle.sound_envelopes.proofs.WriteLaws.{below_set}
use Rattle.voices.proofs.slices.interpolate.Goals as goal

pub loop-k-preserved : goal.loop-k-preserved
loop-k-preserved c =
    let k = c.loop-k.k in
    let pair = get_or c.args.pairs.now k 0 in
    let h = c.loop-k.invariant.here in
    let pair_value : c.between_pair.result ≡ interpolated_pair pair ((c.args.x + k * c.args.phase_increment) % 65536) =
    c.between_pair.ensures.value ∙ ap (interpolated_pair pair) (and_mask c.loop-k.position 16 ∙ ap (λ x. x % 65536) h) in
    let same : to_z w16 (of_z w16 (to_z w32 (of_z w32 c.between_pair.result))) ≡ c.between_pair.result =
    omega (arith, ints, c.between_pair.ensures.low, c.between_pair.ensures.high) in
    record {
      here = omega (arith, h);
      done =
          below_set (pos 0)
          (λ k y. y ≡ interpolated_pair (get_or c.args.pairs.now k 0) ((c.args.x + k * c.args.phase_increment) % 65536))
          c.loop-k.run k _
          (omega arith) c.loop-k.invariant.done (same ∙ pair_value);
    }
