use Rattle.sound_neutral_edits.proofs.EventLaws.{neutral_heard, neutral_blocks}
use Rattle.sound_neutral_edits.proofs.laws.neutral_edits_change_no_frame.Goals as goal

pub returns-clause-heard : goal.returns-clause-heard
returns-clause-heard c = neutral_heard

pub returns-clause-blocks : goal.returns-clause-blocks
returns-clause-blocks c = neutral_blocks
