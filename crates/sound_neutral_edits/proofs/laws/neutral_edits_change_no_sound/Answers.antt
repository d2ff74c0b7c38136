use Rattle.sound_neutral_edits.proofs.FormLaws.{neutral_alike, neutral_pairs}
use Rattle.sound_neutral_edits.proofs.EventLaws.{neutral_render}
use Rattle.sound_neutral_edits.proofs.laws.neutral_edits_change_no_sound.Goals as goal

pub returns-clause-alike : goal.returns-clause-alike
returns-clause-alike c = neutral_alike

pub returns-clause-pairs : goal.returns-clause-pairs
returns-clause-pairs c = neutral_pairs

pub returns-clause-same : goal.returns-clause-same
returns-clause-same c = neutral_render
