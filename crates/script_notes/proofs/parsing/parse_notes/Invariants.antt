use Rattle.std.proofs.Common.{◌≡◌, ◌≤◌, ◌+◌, length, map}
use Rattle.script_tokens.specs.TokenValue.{values_in}
use Rattle.script_tokens.specs.Pool.{gather}
use Rattle.script_notes.specs.declared.limits.TheConstants.{MOST_NOTES}
use Rattle.script_notes.specs.Notes.{with_note, notes_of}
use Rattle.script_notes.proofs.parsing.parse_notes.Given as goal

-- the notes so far and the remaining lines give the notes of the whole text
abbrev pub invariant-loop-line : goal.invariant-loop-line
invariant-loop-line l = record {
  can_next : (goal.iterator-loop-line).can_next l.line-iterator;
  is_finite : (goal.iterator-loop-line).is_finite l.line-iterator;
  left : gather with_note (l.number + 1) (map values_in l.line-iterator) l.notes.items ≡ notes_of l.text;
  counted : l.number + length l.line-iterator ≤ length l.text;
  few : length l.notes.items ≤ MOST_NOTES;
}
