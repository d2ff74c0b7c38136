use Rattle.sample_replacements.proofs.ReplacingLaws.{replacing_kept}
use Rattle.sample_replacements.proofs.RestLaws.{rest_stays, pitches_stay}
use Rattle.sample_replacements.proofs.laws.replacing_keeps.Goals as goal

pub returns : goal.returns
returns c = record { edits = replacing_kept; rest = rest_stays; pitches = pitches_stay }
