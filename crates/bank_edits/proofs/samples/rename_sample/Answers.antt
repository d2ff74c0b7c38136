use Rattle.bank_changes.proofs.SampleLaws.{renamed_sound}
use Rattle.edit_refusals.proofs.SampleLaws.{there_of_rename}
use Rattle.bank_edits.proofs.SampleLaws.{inverse_of_rename}
use Rattle.bank_edits.proofs.samples.rename_sample.Goals as goal

pub rename_sample-old-requires-clause-sound : goal.rename_sample-old-requires-clause-sound
rename_sample-old-requires-clause-sound c =
    renamed_sound c.args.bank.now c.args.sample c.args.name c.requires.sound c.bytes-bytes.ensures.named

pub returns : goal.returns
returns c =
    let b = c.args.bank.now in (
      c.rename_sample-old.ensures.change,
      inverse_of_rename b c.args.sample c.args.name c.rename_sample-old.result
          (there_of_rename b c.args.sample c.args.name c.requires.accepted) c.rename_sample-old.ensures.value,
    )
