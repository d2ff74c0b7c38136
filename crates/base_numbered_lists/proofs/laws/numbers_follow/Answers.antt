use Rattle.base_numbered_lists.proofs.Following.{insertion_followed, removal_followed, move_followed}
use Rattle.base_numbered_lists.proofs.laws.numbers_follow.Goals as goal

pub returns-clause-insertion : goal.returns-clause-insertion
returns-clause-insertion g c = insertion_followed

pub returns-clause-removal : goal.returns-clause-removal
returns-clause-removal g c = removal_followed

pub returns-clause-moved : goal.returns-clause-moved
returns-clause-moved g c = move_followed
