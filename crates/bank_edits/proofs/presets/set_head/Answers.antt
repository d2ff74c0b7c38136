use Rattle.std.proofs.Math.Facts.{Fits-lt-pow}
use Rattle.bank_changes.proofs.PresetLaws.{head_set_sound}
use Rattle.edit_refusals.proofs.PresetLaws.{there_of_set_head}
use Rattle.bank_edits.proofs.PresetLaws.{inverse_of_set_head}
use Rattle.bank_edits.proofs.presets.set_head.Goals as goal

pub set_head-old-requires-clause-there : goal.set_head-old-requires-clause-there
set_head-old-requires-clause-there c =
    there_of_set_head c.args.bank.now c.args.preset c.args.name c.args.number c.args.bank_number c.requires.accepted

pub set_head-old-requires-clause-sound : goal.set_head-old-requires-clause-sound
set_head-old-requires-clause-sound c =
    head_set_sound c.args.bank.now c.args.preset c.args.name c.args.number c.args.bank_number c.requires.sound
    c.bytes-bytes.ensures.named (Fits-lt-pow c.ranges.number) (Fits-lt-pow c.ranges.bank_number)

pub returns : goal.returns
returns c =
    let b = c.args.bank.now in (
      c.set_head-old.ensures.change,
      inverse_of_set_head b c.args.preset c.args.name c.args.number c.args.bank_number c.set_head-old.result
          c.set_head-old.ensures.value,
    )
