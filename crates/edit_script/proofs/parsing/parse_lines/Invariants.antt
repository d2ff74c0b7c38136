use Rattle.std.proofs.Common.{◌≡◌, ◌≤◌, ◌+◌, length}
use Rattle.script_tokens.specs.Lines.{lines_of}
use Rattle.script_tokens.specs.TokenValue.{line_values_over}
use Rattle.script_tokens.specs.Pool.{gather}
use Rattle.edit_script.specs.Script.{edit_of, edits_in}
use Rattle.edit_script.proofs.parsing.parse_lines.Given as goal

-- the edits so far and the remaining lines give the edits of the whole text
abbrev pub invariant-loop-line : goal.invariant-loop-line
invariant-loop-line l = record {
  can_next : (goal.iterator-loop-line).can_next l.line-iterator;
  is_finite : (goal.iterator-loop-line).is_finite l.line-iterator;
  left : gather edit_of (l.number + 1) (line_values_over l.rest l.line-iterator) l.edits.items
      ≡ edits_in (line_values_over l.pool (lines_of l.text));
  counted : l.number + length l.line-iterator ≤ length l.text;
}
