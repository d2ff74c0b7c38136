use Rattle.base_numbered_lists.proofs.Lists.{moved-back, moved-back-numbered}
use Rattle.base_numbered_lists.proofs.laws.move_undone.Goals as goal

pub returns-clause-list : goal.returns-clause-list
returns-clause-list g c = moved-back

pub returns-clause-numbers : goal.returns-clause-numbers
returns-clause-numbers g c = moved-back-numbered
