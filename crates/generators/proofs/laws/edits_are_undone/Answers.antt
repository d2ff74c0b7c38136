use Rattle.generators.proofs.MapLaws.{insert-insert_back, remove-insert, insert-remove, remove-absent, insert-present}
use Rattle.generators.proofs.laws.edits_are_undone.Goals as goal

pub returns-clause-set_back : goal.returns-clause-set_back
returns-clause-set_back c = insert-insert_back

pub returns-clause-cleared : goal.returns-clause-cleared
returns-clause-cleared c = remove-insert

pub returns-clause-set_again : goal.returns-clause-set_again
returns-clause-set_again c = insert-remove

pub returns-clause-none_cleared : goal.returns-clause-none_cleared
returns-clause-none_cleared c = remove-absent

pub returns-clause-same_set : goal.returns-clause-same_set
returns-clause-same_set c = insert-present
