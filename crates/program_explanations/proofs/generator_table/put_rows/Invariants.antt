use Rattle.std.proofs.Common.{drop, flat_map}
use Rattle.base_outputs.proofs.OutputLaws.{Putting}
use Rattle.program_explanations.specs.GeneratorTable.{row_text}
use Rattle.program_explanations.proofs.generator_table.put_rows.Given as goal

-- the lines so far were put
abbrev pub invariant-loop-row : goal.invariant-loop-row
invariant-loop-row g l =
    Putting g.W.Write.contents l.fn.output l.output (flat_map row_text l.rows)
    (flat_map row_text (drop l.row-index l.rows))
