use Rattle.voices.proofs.ReleaseLaws.{ends_free}
use Rattle.voices.proofs.end_law.Goals as goal

pub returns : goal.returns
returns c = ends_free
