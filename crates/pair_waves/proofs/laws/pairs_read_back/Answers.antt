use Rattle.pair_waves.proofs.BackLaws.{pairs_read_back}
use Rattle.pair_waves.proofs.laws.pairs_read_back.Goals as goal

pub returns : goal.returns
returns c = pairs_read_back
