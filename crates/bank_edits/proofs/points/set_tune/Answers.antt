use Rattle.std.proofs.Common.{w8}
use Rattle.std.proofs.lemmas.Int.{to_z-of_z}
use Rattle.edit_refusals.proofs.PointLaws.{there_of_tune, sound_tune}
use Rattle.bank_edits.proofs.PointLaws.{correction_fits, inverse_of_set_tune}
use Rattle.bank_edits.proofs.points.set_tune.Goals as goal

pub set_tune-old_rate-requires-clause-sound : goal.set_tune-old_rate-requires-clause-sound
set_tune-old_rate-requires-clause-sound c =
    rw (to_z-of_z w8 c.args.correction c.ranges.correction)
    (sound_tune c.args.bank.now c.args.sample c.args.rate c.args.key c.args.correction c.requires.sound
    c.ranges.rate.fits c.ranges.key.fits c.ranges.correction
    (there_of_tune c.args.bank.now c.args.sample c.args.rate c.args.key c.args.correction c.requires.accepted))

pub returns : goal.returns
returns c =
    let b = c.args.bank.now in
    let i = c.args.sample in
    let old = c.set_tune-old_rate in
    let lt = there_of_tune b i c.args.rate c.args.key c.args.correction c.requires.accepted in
    let fits = correction_fits b i lt c.requires.sound old.result.2 old.ensures.correction in (
      rw (to_z-of_z w8 c.args.correction c.ranges.correction) at old.ensures.change,
      rw (to_z-of_z w8 old.result.2 fits)
          (inverse_of_set_tune b i lt c.args.rate c.args.key c.args.correction old.result.0 old.result.1 old.result.2
          old.ensures.rate old.ensures.key old.ensures.correction),
    )
