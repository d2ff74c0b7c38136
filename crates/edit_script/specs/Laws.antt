-- The laws of all scripts.
use Rattle.std.specs.Prelude.{◌≡◌, ◌↔◌, ℕ, List, Ok}
use Rattle.edit_forms.specs.declared.edit.Edit.{Edit}
use Rattle.edit_script.specs.declared.parsing.Line.{Line}
use Rattle.edit_script.specs.Script.{script_of}
use Rattle.edit_script.specs.TextForm.{Spells}
use Rattle.edit_script.specs.Printing.{texts_of, numbered, AllFit, LinesFit}

-- A text encodes exactly the edits that are read from it.
abbrev pub SpelledIsRead : Type 0
SpelledIsRead = (text : List ℕ) (lines : List Line) → Spells text lines ↔ (script_of text ≡ Ok lines)

-- No text encodes two different lists.
abbrev pub OneReading : Type 0
OneReading = (text : List ℕ) (a b : List Line) → Spells text a → Spells text b → a ≡ b

-- The printed lines of edits encode those edits, one on each line.
abbrev pub PrintedLinesSpell : Type 0
PrintedLinesSpell = (edits : List Edit) → AllFit edits → Spells (texts_of edits) (numbered 1 edits)

-- Every edit that a text encodes fits.
abbrev pub SpelledEditsFit : Type 0
SpelledEditsFit = (text : List ℕ) (lines : List Line) → Spells text lines → LinesFit lines
