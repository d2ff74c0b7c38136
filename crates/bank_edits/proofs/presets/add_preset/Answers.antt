use Rattle.edit_refusals.proofs.PresetLaws.{add_preset_allowed, sound_add_preset}
use Rattle.bank_edits.proofs.presets.add_preset.Goals as goal

pub add_preset-requires-clause-place : goal.add_preset-requires-clause-place
add_preset-requires-clause-place c =
    (add_preset_allowed c.args.bank.now c.args.at c.args.preset c.fits.ensures c.requires.accepted).place

pub add_preset-requires-clause-sound : goal.add_preset-requires-clause-sound
add_preset-requires-clause-sound c =
    sound_add_preset c.args.bank.now c.args.at c.args.preset c.requires.sound c.fits.ensures c.requires.accepted
