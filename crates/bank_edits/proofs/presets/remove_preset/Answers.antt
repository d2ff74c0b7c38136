use Rattle.edit_refusals.proofs.PresetLaws.{sound_remove_preset}
use Rattle.bank_edits.proofs.presets.remove_preset.Goals as goal

pub remove_preset-requires-clause-sound : goal.remove_preset-requires-clause-sound
remove_preset-requires-clause-sound c =
    sound_remove_preset c.args.bank.now c.args.preset c.requires.sound c.requires.accepted
