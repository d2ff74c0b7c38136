use Rattle.edit_refusals.proofs.SampleLaws.{sound_add}
use Rattle.bank_edits.proofs.samples.add_sample.Goals as goal

pub add_sample-requires-clause-sound : goal.add_sample-requires-clause-sound
add_sample-requires-clause-sound c =
    sound_add c.args.bank.now c.args.at c.args.sample c.requires.sound c.fits.ensures c.requires.accepted
