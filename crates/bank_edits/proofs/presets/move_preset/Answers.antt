use Rattle.edit_refusals.proofs.PresetLaws.{moves_preset, sound_move_preset}
use Rattle.bank_edits.proofs.presets.move_preset.Goals as goal

pub move_preset-requires-clause-there : goal.move_preset-requires-clause-there
move_preset-requires-clause-there c = (moves_preset c.args.bank.now c.args.from c.args.to c.requires.accepted).there

pub move_preset-requires-clause-place : goal.move_preset-requires-clause-place
move_preset-requires-clause-place c = (moves_preset c.args.bank.now c.args.from c.args.to c.requires.accepted).place

pub move_preset-requires-clause-sound : goal.move_preset-requires-clause-sound
move_preset-requires-clause-sound c =
    sound_move_preset c.args.bank.now c.args.from c.args.to c.requires.sound c.requires.accepted
