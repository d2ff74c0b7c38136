use Rattle.riff_chunks.proofs.WalkLaws.{Walks-walk}
use Rattle.riff_chunks.proofs.chunks.Chunks.over.Goals as goal

pub returns-clause-walks : goal.returns-clause-walks
returns-clause-walks c = Walks-walk c.args.window.now
