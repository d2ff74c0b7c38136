-- The two texts of a save.
use Rattle.std.specs.Prelude.{ℕ, List, reverse}
use Rattle.bank_parts.specs.declared.parts.Parts.{Parts}
use Rattle.bank_format.specs.Canon.{canon}
use Rattle.edit_forms.specs.declared.edit.Edit.{Edit}
use Rattle.edit_script.specs.Printing.{texts_of}

-- the two texts of a save
pub record Saved : Type 0 where
  pub out : List ℕ
  pub undo : List ℕ

-- the undo script: edits in reverse order
abbrev pub undo_text : List Edit → List ℕ
undo_text back = texts_of (reverse back)

-- the canonical file of a bank, and its undo script, of inverses with the oldest edit's first
abbrev pub saved_of : Parts → List Edit → Saved
saved_of b back = record { out = canon b; undo = undo_text back }
