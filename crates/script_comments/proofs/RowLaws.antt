-- The rows of the generators, in a loop.
use Rattle.std.proofs.Common.{pos, false, []}
use Rattle.generator_rows.specs.declared.row.DefaultAmount.TheVariants.{Number}
use Rattle.generator_rows.specs.declared.row.GeneratorRow.{GeneratorRow}
use Rattle.generator_rows.specs.declared.row.Unit.TheVariants.{Points}

-- what an index past the end is read as
abbrev pub no_row : GeneratorRow
no_row = record {
  number = 0;
  name = [];
  unit = Points;
  low = pos 0;
  high = pos 0;
  range = [];
  default = Number (pos 0);
  is_played = false;
}
