use Rattle.kit_tables.proofs.BareLaws.{row_is}
use Rattle.kit_tables.proofs.parsing.row.Goals as goal

pub returns-in-Err : goal.returns-in-Err
returns-in-Err c = row_is _ _ _ _ c.in-Some.ensures c.in-Err.ensures

pub returns-in-Ok : goal.returns-in-Ok
returns-in-Ok c = row_is _ _ _ _ c.in-Some.ensures c.in-Ok.ensures
