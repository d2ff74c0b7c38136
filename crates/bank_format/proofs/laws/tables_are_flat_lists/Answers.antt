use Rattle.bank_format.proofs.FlatLaws.{tables-flat}
use Rattle.bank_format.proofs.laws.tables_are_flat_lists.Goals as goal

pub returns : goal.returns
returns c = tables-flat
