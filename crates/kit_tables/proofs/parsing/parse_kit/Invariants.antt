use Rattle.std.proofs.Common.{◌≡◌, ◌≤◌, ◌+◌, [], length, map}
use Rattle.script_tokens.specs.Lines.{lines_of}
use Rattle.kit_tables.specs.declared.limits.TheConstants.{MOST_ROWS}
use Rattle.kit_tables.specs.Rows.{row_of}
use Rattle.kit_tables.proofs.RowLaws.{then_rows}
use Rattle.kit_tables.proofs.parsing.parse_kit.Given as goal

-- the rows so far and the remaining lines give the rows of the whole text
abbrev pub invariant-loop-line : goal.invariant-loop-line
invariant-loop-line l = record {
  can_next : (goal.iterator-loop-line).can_next l.line-iterator;
  is_finite : (goal.iterator-loop-line).is_finite l.line-iterator;
  left : then_rows (l.number + 1) (map row_of l.rows.items) l.line-iterator ≡ then_rows 1 [] (lines_of l.text);
  counted : l.number + length l.line-iterator ≤ length l.text;
  few : length l.rows.items ≤ MOST_ROWS;
}
