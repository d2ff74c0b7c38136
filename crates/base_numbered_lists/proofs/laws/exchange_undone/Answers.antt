use Rattle.base_numbered_lists.proofs.Lists.{slice_set-back, changed-back}
use Rattle.base_numbered_lists.proofs.laws.exchange_undone.Goals as goal

pub returns-clause-exchange : goal.returns-clause-exchange
returns-clause-exchange g c = slice_set-back

pub returns-clause-change : goal.returns-clause-change
returns-clause-change g c = λ xs i x f k. changed-back xs i f k x
