use Rattle.base_numbered_lists.proofs.Numbers.{move_returned, insertion_returned_all, removal_returned_all}
use Rattle.base_numbered_lists.proofs.Numbers.{move_returned_all}
use Rattle.base_numbered_lists.proofs.laws.numbers_restored.Goals as goal

pub returns-clause-move_back : goal.returns-clause-move_back
returns-clause-move_back c = move_returned

pub returns-clause-insertion_all : goal.returns-clause-insertion_all
returns-clause-insertion_all c = insertion_returned_all

pub returns-clause-removal_all : goal.returns-clause-removal_all
returns-clause-removal_all c = removal_returned_all

pub returns-clause-move_all : goal.returns-clause-move_all
returns-clause-move_all c = move_returned_all
