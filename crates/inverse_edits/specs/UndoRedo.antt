-- Undo, redo and edit, on a bank and the lists of undo and redo edits.
use Rattle.std.specs.Prelude.{◌≡◌, None, Some, List, [], ◌∷◌, ◌++◌, Result, Ok, Err}
use Rattle.bank_parts.specs.declared.parts.Parts.{Parts}
use Rattle.edit_forms.specs.declared.edit.Edit.{Edit}
use Rattle.edit_refusals.specs.declared.refusal.Refusal.{Refusal}
use Rattle.edit_refusals.specs.declared.refusal.Refusal.TheVariants.{OutOfMemory}
use Rattle.edit_forms.specs.Fits.{FitsEdit}
use Rattle.edit_refusals.specs.Edits.{raw, refusal}
use Rattle.bank_edits.specs.EditChanges.{inverse}

-- the bank accepts the last edit of the list, if there is one
abbrev pub AcceptsLast : Parts → List Edit → Type 0
AcceptsLast b edits = (remaining : List Edit) (e : Edit) → edits ≡ remaining ++ e ∷ [] → refusal b e ≡ None

-- the last edit of a list was applied, and its inverse appended to the other list
pub record IsLastApplied (old new : Parts) (old_from new_from old_to new_to : List Edit) : Type 0 where
  pub edit : Edit
  pub last : old_from ≡ new_from ++ edit ∷ []
  pub changed : new ≡ raw old edit
  pub back : new_to ≡ old_to ++ inverse old edit ∷ []

pub record IsUnchanged (old new : Parts) (old_from new_from old_to new_to : List Edit) : Type 0 where
  pub bank : new ≡ old
  pub from : new_from ≡ old_from
  pub to : new_to ≡ old_to

-- why nothing was applied: `at_end` for an empty list, otherwise `OutOfMemory`
abbrev pub stop_reason : List Edit → Refusal → Refusal
stop_reason [] at_end = at_end
stop_reason (e ∷ edits) at_end = OutOfMemory

abbrev pub IsApplyLast : Parts → Parts → List Edit → List Edit → List Edit → List Edit → Refusal
    → Result (Unit {0}) Refusal → Type 0
IsApplyLast old new f f' t t' at_end (Ok done) = IsLastApplied old new f f' t t'
IsApplyLast old new f f' t t' at_end (Err why) = IsUnchanged old new f f' t t' × (why ≡ stop_reason f at_end)

-- the edit was applied, and its inverse appended to the list
pub record IsEditApplied (old new : Parts) (was now : List Edit) (e : Edit) : Type 0 where
  pub fits : FitsEdit e
  pub accepted : refusal old e ≡ None
  pub changed : new ≡ raw old e
  pub back : now ≡ was ++ inverse old e ∷ []

abbrev pub IsReason : Parts → Edit → Refusal → Type 0
IsReason b e OutOfMemory = Unit {0}
IsReason b e why = refusal b e ≡ Some why

pub record IsEditReturned (old new : Parts) (was now : List Edit) (e : Edit) (why : Refusal) (given : Edit) : Type 0 where
  pub named : IsReason old e why
  pub bank : new ≡ old
  pub list : now ≡ was
  pub edit_returned : given ≡ e

abbrev pub IsApplyEdit : Parts → Parts → List Edit → List Edit → Edit → Result (Unit {0}) (Refusal × Edit) → Type 0
IsApplyEdit old new was now e (Ok done) = IsEditApplied old new was now e
IsApplyEdit old new was now e (Err refused) = IsEditReturned old new was now e refused.0 refused.1
