-- The undo law of a form, from facts about its inverse.
use Rattle.std.proofs.Common.{◌≡◌, None, sym, subst}
use Rattle.bank_parts.specs.declared.parts.Parts.{Parts}
use Rattle.bank_parts.specs.Sound.{IsSound}
use Rattle.edit_forms.specs.declared.step.Step.{Step}
use Rattle.edit_forms.specs.Fits.{FitsStep}
use Rattle.edit_forms.specs.Steps.{raw, causes, refusal}
use Rattle.edit_forms.specs.Steps.{inverse}
use Rattle.edit_refusals.proofs.Accepted.{NoneApplies, accepted_by}
use Rattle.bank_edits.specs.Undoing.{IsUndoneBy}

-- the bank accepts the step
pub record IsAccepted (b : Parts) (s : Step) : Type 0 where
  pub fits : FitsStep s
  pub accepted : refusal b s ≡ None

-- the changed bank accepts the inverse step, which restores the bank
abbrev pub IsUndone : Parts → Step → Type 0
IsUndone b s = IsUndoneBy raw inverse IsAccepted b s

-- Facts about a step and its computed inverse. The inverse breaks no limit, because the restored bank is sound.
pub record Facts (b : Parts) (s back : Step) : Type 0 where
  pub is : inverse b s ≡ back
  pub sound : IsSound (raw b s)
  pub fits : FitsStep back
  pub tests : NoneApplies (causes (raw b s) back)
  pub restored : raw (raw b s) back ≡ b
  pub redone : inverse (raw b s) back ≡ s

pub undone_by : (b : Parts) (s back : Step) → IsSound b → Facts b s back → IsUndone b s
undone_by b s back sound f =
    let same = f.is in
    let still : IsSound (raw (raw b s) back) = subst IsSound (sym f.restored) sound in
    record {
      sound = f.sound;
      is_accepted = rw same (record { fits = f.fits; accepted = accepted_by (raw b s) back f.tests still });
      restored = rw same f.restored;
      redone = rw same f.redone;
    }
