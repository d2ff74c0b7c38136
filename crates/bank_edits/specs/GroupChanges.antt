-- The result of one step of a group.
use Rattle.std.specs.Prelude.{◌≡◌, ℕ, None, Some}
use Rattle.bank_parts.specs.declared.parts.Parts.{Parts}
use Rattle.edit_forms.specs.declared.step.Step.{Step}
use Rattle.edit_refusals.specs.declared.refusal.Refusal.{Refusal}
use Rattle.edit_refusals.specs.declared.refusal.Refusal.TheVariants.{Of, OutOfMemory, NothingToUndo, NothingToRedo}
use Rattle.edit_refusals.specs.declared.refusal.Refusal.TheVariants.{GroupRefused}
use Rattle.edit_forms.specs.Steps.{raw, refusal}
use Rattle.edit_forms.specs.Steps.{inverse}

-- the step was applied, and `back` is its inverse
pub record IsStepDone (old new : Parts) (s back : Step) : Type 0 where
  pub accepted : refusal old s ≡ None
  pub changed : new ≡ raw old s
  pub back_is_inverse : back ≡ inverse old s

-- step `n` of its group was refused with its cause, or an allocation failed
abbrev pub StepStops : Parts → ℕ → Step → Refusal → Type 0
StepStops b n s OutOfMemory = Unit {0}
StepStops b n s (GroupRefused index cause) = (index ≡ n) × (refusal b s ≡ Some cause)
StepStops b n s (Of cause) = ⊥
StepStops b n s NothingToUndo = ⊥
StepStops b n s NothingToRedo = ⊥
