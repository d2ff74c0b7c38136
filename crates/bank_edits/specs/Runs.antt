-- Sequences of edits.
use Rattle.std.specs.Prelude.{List}
use Rattle.bank_parts.specs.declared.parts.Parts.{Parts}
use Rattle.bank_parts.specs.Sound.{IsSound}
use Rattle.edit_forms.specs.declared.edit.Edit.{Edit}
use Rattle.edit_refusals.specs.Sequences as row
use Rattle.edit_refusals.specs.Edits.{raw}
use Rattle.bank_edits.specs.EditChanges.{inverse}
use Rattle.bank_edits.specs.Undoing.{IsUndoneBy, AllAcceptedBy}
use Rattle.bank_edits.specs.Undone.{IsAccepted}

-- each edit is accepted on the bank after the edits before it
abbrev pub AllAccepted : Parts → List Edit → Type 0
AllAccepted b es = AllAcceptedBy raw IsAccepted b es

-- the bank after the edits
abbrev pub after_all : Parts → List Edit → Parts
after_all b es = row.after_all raw b es

-- the inverses of the edits, the last edit's first
abbrev pub undo_list : Parts → List Edit → List Edit
undo_list b es = row.undo_list raw inverse b es

-- the changed bank accepts the undo list, which restores the bank
abbrev pub AreUndone : Parts → List Edit → Type 0
AreUndone b es = IsUndoneBy after_all undo_list AllAccepted b es

-- The theorem of undo for lists of edits, the contract of `undo_restores_all` (src/laws.rt), proved as `all_undone` in
-- proofs/RunLaw.antt.
abbrev pub UndoRestoresAll : Type 0
UndoRestoresAll = (b : Parts) (es : List Edit) → IsSound b → AllAccepted b es → AreUndone b es
