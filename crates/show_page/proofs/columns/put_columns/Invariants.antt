use Rattle.std.specs.List.{flat_map}
use Rattle.base_outputs.proofs.OutputLaws.{Putting}
use Rattle.show_page.specs.Columns.{column_count, column, columns}
use Rattle.show_page.proofs.Loops.{from}
use Rattle.show_page.proofs.columns.put_columns.Given as goal

-- the remaining columns are still to be written
abbrev pub invariant-loop-number : goal.invariant-loop-number
invariant-loop-number g l =
    Putting g.W.Write.contents l.initial.output l.output (columns l.points)
    (flat_map (column l.points) (from l.number (column_count l.points)))
