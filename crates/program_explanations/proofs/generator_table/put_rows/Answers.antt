use Rattle.std.proofs.Common.{pos, false, []}
use Rattle.base_outputs.proofs.OutputLaws.{putting_member}
use Rattle.generator_rows.specs.declared.row.DefaultAmount.TheVariants.{Number}
use Rattle.generator_rows.specs.declared.row.GeneratorRow.{GeneratorRow}
use Rattle.generator_rows.specs.declared.row.Unit.TheVariants.{Points}
use Rattle.program_explanations.specs.GeneratorTable.{row_text}
use Rattle.program_explanations.proofs.generator_table.put_rows.Goals as goal

-- what an index past the end is read as
abbrev no_row : GeneratorRow
no_row = record {
  number = 0;
  name = [];
  unit = Points;
  low = pos 0;
  high = pos 0;
  range = [];
  default = Number (pos 0);
  is_played = false;
}

pub loop-row-preserved : goal.loop-row-preserved
loop-row-preserved g c =
    putting_member row_text c.args.rows.now c.loop-row.row-index no_row c.loop-row.invariant c.loop-row-test.true
    c.put_row.ensures
