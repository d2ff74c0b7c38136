use Rattle.std.proofs.Common.{refl}
use Rattle.sf_writer.proofs.ChunkLaws.{put_even}
use Rattle.sf_writer.proofs.chunks.put_chunk.Goals as goal

pub returns : goal.returns
returns g c = put_even _ _ _ _ refl c.requires.even refl c.head.ensures c.body.ensures
