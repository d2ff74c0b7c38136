use Rattle.edit_refusals.proofs.SampleLaws.{moves_sample, sound_move_sample}
use Rattle.bank_edits.proofs.samples.move_sample.Goals as goal

pub move_sample-requires-clause-there : goal.move_sample-requires-clause-there
move_sample-requires-clause-there c = (moves_sample c.args.bank.now c.args.from c.args.to c.requires.accepted).there

pub move_sample-requires-clause-place : goal.move_sample-requires-clause-place
move_sample-requires-clause-place c = (moves_sample c.args.bank.now c.args.from c.args.to c.requires.accepted).place

pub move_sample-requires-clause-sound : goal.move_sample-requires-clause-sound
move_sample-requires-clause-sound c =
    sound_move_sample c.args.bank.now c.args.from c.args.to c.requires.sound c.requires.accepted
