use Rattle.flat_records.proofs.Converse.{bags_tables}
use Rattle.flat_records.proofs.reading.tables_of_bags_are_tables.Goals as goal

pub returns : goal.returns
returns c = bags_tables
