use Rattle.generators.proofs.MapLaws.{insert-insert, insert-insert_other, remove-remove_other, remove-insert_other}
use Rattle.generators.proofs.laws.edits_combine.Goals as goal

pub returns-clause-last : goal.returns-clause-last
returns-clause-last c = insert-insert

pub returns-clause-settings : goal.returns-clause-settings
returns-clause-settings c m a b v w differ = insert-insert_other m a b differ v w

pub returns-clause-clearings : goal.returns-clause-clearings
returns-clause-clearings c = remove-remove_other

pub returns-clause-both : goal.returns-clause-both
returns-clause-both c m a b v differ = remove-insert_other m a b differ v
