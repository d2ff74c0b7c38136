use Rattle.base_numbered_lists.proofs.Lists.{insert-remove, insert-remove-numbered}
use Rattle.base_numbered_lists.proofs.laws.removal_undone.Goals as goal

pub returns-clause-list : goal.returns-clause-list
returns-clause-list g c = insert-remove

pub returns-clause-numbers : goal.returns-clause-numbers
returns-clause-numbers g c = insert-remove-numbered
