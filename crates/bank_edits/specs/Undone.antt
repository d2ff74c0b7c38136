-- The undo law of edits.
use Rattle.std.specs.Prelude.{◌≡◌, None}
use Rattle.bank_parts.specs.declared.parts.Parts.{Parts}
use Rattle.bank_parts.specs.Sound.{IsSound}
use Rattle.edit_forms.specs.declared.edit.Edit.{Edit}
use Rattle.edit_forms.specs.Fits.{FitsEdit}
use Rattle.edit_refusals.specs.Edits.{raw, refusal}
use Rattle.bank_edits.specs.EditChanges.{inverse}
use Rattle.bank_edits.specs.Undoing.{IsUndoneBy}

-- the bank accepts the edit: its numbers, names and texts are in range, and it is not refused
pub record IsAccepted (b : Parts) (e : Edit) : Type 0 where
  pub fits : FitsEdit e
  pub accepted : refusal b e ≡ None

-- The changed bank is sound and accepts the inverse edit, which restores the bank, and whose own inverse is the edit
-- (the fields of `IsUndoneBy`, in `Undoing`).
abbrev pub IsUndone : Parts → Edit → Type 0
IsUndone b e = IsUndoneBy raw inverse IsAccepted b e

-- The theorem of undo for one edit, the contract of `undo_restores` (src/laws.rt), proved as `undone` in proofs/Law.antt.
-- That for lists of edits is in `Runs`, that of files in `Outcome` of the crate `sfbank`.
abbrev pub UndoRestores : Type 0
UndoRestores = (b : Parts) (e : Edit) → IsSound b → IsAccepted b e → IsUndone b e
