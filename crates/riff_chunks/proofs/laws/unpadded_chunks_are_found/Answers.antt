use Rattle.riff_chunks.proofs.EncodingLaws.{unpadded}
use Rattle.riff_chunks.proofs.laws.unpadded_chunks_are_found.Goals as goal

pub returns : goal.returns
returns c = unpadded
