use Rattle.riff_chunks.proofs.WalkLaws.{walk_is_one}
use Rattle.riff_chunks.proofs.laws.walk_is_unique.Goals as goal

pub returns : goal.returns
returns c = walk_is_one
