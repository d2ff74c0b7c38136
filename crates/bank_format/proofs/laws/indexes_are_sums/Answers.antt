use Rattle.bank_format.proofs.IndexLaws.{indexes-sum}
use Rattle.bank_format.proofs.laws.indexes_are_sums.Goals as goal

pub returns : goal.returns
returns c = indexes-sum
