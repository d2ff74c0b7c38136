use Rattle.edit_refusals.proofs.SampleLaws.{sound_remove}
use Rattle.bank_edits.proofs.samples.remove_sample.Goals as goal

pub remove_sample-removed-requires-clause-sound : goal.remove_sample-removed-requires-clause-sound
remove_sample-removed-requires-clause-sound c =
    sound_remove c.args.bank.now c.args.sample c.requires.sound c.requires.accepted
