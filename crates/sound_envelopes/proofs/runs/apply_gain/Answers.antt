use Rattle.std.proofs.Common.{rules, ◌≡◌, pos, arith, get_or, ap, ◌∙◌, to_z, of_z, SFits}
use Rattle.std.proofs.lemmas.Int.{ints, to_z-of_z}
use Rattle.std.specs.Int.{w16}
use Rattle.sound_envelopes.specs.Gain.{scaled_by}
use Rattle.sound_envelopes.proofs.WriteLaws.{below_set, after_set}
use Rattle.sound_envelopes.proofs.runs.apply_gain.Goals as goal

pub loop-i-preserved : goal.loop-i-preserved
loop-i-preserved c =
    let i = c.loop-i.i in
    let level = get_or c.args.levels.now i 0 in
    let el : SFits w16 (get_or c.loop-i.run i (pos 0)) = search rules in
    let was = to_z-of_z w16 (get_or c.loop-i.run i (pos 0)) el ∙ c.loop-i.invariant.left i (omega arith) in
    let is : c.attenuated_i16.result ≡ scaled_by (get_or c.args.run.now i (pos 0)) level =
    c.attenuated_i16.ensures ∙ ap (λ y. scaled_by y level) was in
    let same : to_z w16 (of_z w16 c.attenuated_i16.result) ≡ c.attenuated_i16.result = omega (arith, ints) in
    record {
      done =
          below_set (pos 0) (λ k y. y ≡ scaled_by (get_or c.args.run.now k (pos 0)) (get_or c.args.levels.now k 0))
          c.loop-i.run i _ (omega arith)
          c.loop-i.invariant.done (same ∙ is);
      left = after_set (pos 0) c.loop-i.run c.args.run.now i _ c.loop-i.invariant.left;
    }
