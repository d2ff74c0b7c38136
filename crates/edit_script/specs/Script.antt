-- The edits of a script, or its first fault.
use Rattle.std.specs.Prelude.{ℕ, List, [], ◌∷◌, ◌++◌, Result, Ok, Err}
use Rattle.std.specs.Result.{result_and}
use Rattle.edit_forms.specs.declared.edit.Edit.{Edit}
use Rattle.script_tokens.specs.declared.cursor.TokenValue.{TokenValue}
use Rattle.script_tokens.specs.declared.fault.LineFault.{LineFault}
use Rattle.script_tokens.specs.TokenValue.{values_of_lines}
use Rattle.script_tokens.specs.Parsers.{Parsed}
use Rattle.script_tokens.specs.Pool.{ListOrFault, gather, on_line, pool_bytes}
use Rattle.edit_script.specs.declared.parsing.Line.{Line}
use Rattle.edit_script.specs.Grammar.{edit}

-- the edit that is read from line n is appended, or the fault has the line's number
abbrev pub with_edit : ℕ → List Line → Result (Parsed Edit) LineFault → ListOrFault Line
with_edit n lines (Ok t) = Ok (lines ++ record { number = n; edit = t.value } ∷ [])
with_edit n lines (Err e) = Err (on_line n e)

-- a line without tokens has no edit, and every other line has one
unfoldable pub edit_of : ℕ → List TokenValue → List Line → ListOrFault Line
edit_of n [] lines = Ok lines
edit_of n (s ∷ line) lines = with_edit n lines (edit (s ∷ line))

-- the edits of lines, with their line numbers
unfoldable pub edits_in : List (List TokenValue) → ListOrFault Line
edits_in lines = gather edit_of 1 lines []

-- The edits of a text with their line numbers, or its fault: the first malformed literal in the whole text,
-- else the first fault from left to right.
unfoldable pub script_of : List ℕ → ListOrFault Line
script_of text = result_and (pool_bytes text) (edits_in (values_of_lines text))
