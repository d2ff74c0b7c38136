use Rattle.bank_changes.proofs.SampleLaws.{renamed_sound}
use Rattle.bank_changes.proofs.laws.renaming_keeps_sound.Goals as goal

pub returns : goal.returns
returns c = renamed_sound
