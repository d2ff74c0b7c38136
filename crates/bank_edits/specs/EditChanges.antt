-- The inverse of an edit, and the results of `apply`.
use Rattle.std.specs.Prelude.{◌≡◌, None, Some}
use Rattle.bank_parts.specs.declared.parts.Parts.{Parts}
use Rattle.edit_forms.specs.declared.edit.Edit.{Edit}
use Rattle.edit_forms.specs.declared.edit.Edit.TheVariants.{One, Group}
use Rattle.edit_refusals.specs.declared.refusal.Refusal.{Refusal}
use Rattle.edit_refusals.specs.declared.refusal.Refusal.TheVariants.{OutOfMemory}
use Rattle.edit_forms.specs.Steps as steps
use Rattle.edit_refusals.specs.Sequences.{undo_list}
use Rattle.edit_refusals.specs.Edits.{raw, refusal}

-- the inverse edit, computed from the bank before the edit
abbrev pub inverse : Parts → Edit → Edit
inverse b (One step) = One (steps.inverse b step)
inverse b (Group group) = Group (undo_list steps.raw steps.inverse b group)

-- applying the edit allocates nothing
abbrev pub NeedsNoMemory : Edit → Type 0
NeedsNoMemory (One step) = steps.AllocatesNothing step
NeedsNoMemory (Group group) = ⊥

-- the edit was applied, and `back` is its inverse
pub record IsDone (old new : Parts) (e back : Edit) : Type 0 where
  pub accepted : refusal old e ≡ None
  pub changed : new ≡ raw old e
  pub back_is_inverse : back ≡ inverse old e

-- `OutOfMemory` may be returned: for one step only if no cause applies, for a group always
abbrev pub MayRunOutOfMemory : Parts → Edit → Type 0
MayRunOutOfMemory b (One step) = refusal b (One step) ≡ None
MayRunOutOfMemory b (Group group) = Unit {0}

-- the reason: the cause of refusal, or `OutOfMemory`
abbrev pub IsReason : Parts → Edit → Refusal → Type 0
IsReason b e OutOfMemory = MayRunOutOfMemory b e
IsReason b e why = refusal b e ≡ Some why

-- the edit was not applied, for the reason `why`; the bank is unchanged, and `given` is the edit
pub record IsRefused (old new : Parts) (e : Edit) (why : Refusal) (given : Edit) : Type 0 where
  pub named : IsReason old e why
  pub unchanged : new ≡ old
  pub edit_returned : given ≡ e
