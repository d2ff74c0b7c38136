use Rattle.base_numbered_lists.proofs.Lists.{remove-insert, remove-insert-numbered}
use Rattle.base_numbered_lists.proofs.laws.insertion_undone.Goals as goal

pub returns-clause-list : goal.returns-clause-list
returns-clause-list g c = remove-insert

pub returns-clause-numbers : goal.returns-clause-numbers
returns-clause-numbers g c = remove-insert-numbered
