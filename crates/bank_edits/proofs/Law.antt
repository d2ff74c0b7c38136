-- Undo restores the bank, for one step and for a group of steps.
use Rattle.std.proofs.Common.{◌≡◌, ℕ, suc, Option, None, Some, List, [], ◌∷◌, refl, ap}
use Rattle.std.specs.List.{AllByRecursion}
use Rattle.std.specs.Option.{option_map}
use Rattle.bank_parts.specs.declared.parts.Parts.{Parts}
use Rattle.edit_forms.specs.declared.step.Step.{Step}
use Rattle.edit_forms.specs.declared.edit.Edit.TheVariants.{One, Group}
use Rattle.edit_forms.specs.Fits.{FitsStep}
use Rattle.edit_forms.specs.declared.cause.Cause.{Cause}
use Rattle.edit_refusals.specs.declared.refusal.Refusal.{Refusal}
use Rattle.edit_refusals.specs.declared.refusal.Refusal.TheVariants.{Of}
use Rattle.edit_forms.specs.Steps.{raw, refusal}
use Rattle.edit_refusals.specs.Edits.{or_later, first_refused}
use Rattle.edit_forms.specs.Steps.{inverse}
use Rattle.bank_edits.specs.Undoing.{AllAcceptedBy}
use Rattle.bank_edits.specs.Undone as edits
use Rattle.bank_edits.proofs.UndoneBy.{IsAccepted}
use Rattle.bank_edits.proofs.StepLaw.{undone_step}
use Rattle.bank_edits.proofs.SequenceLaw.{sequence_undone}

-- ---- one step

no_cause : (c : Option Cause) → option_map Of c ≡ None → c ≡ None
no_cause None h = refl
no_cause (Some cause) h = cc

-- ---- a group is accepted if each step is accepted on the bank after the steps before it

abbrev StepsAccepted : Parts → List Step → Type 0
StepsAccepted = AllAcceptedBy raw IsAccepted

none_of_both : (n : ℕ) (c : Option Cause) (later : Option Refusal) → or_later n c later ≡ None
    → (c ≡ None) × (later ≡ None)
none_of_both n None later h = (refl, h)
none_of_both n (Some cause) later h = cc

steps_accepted : (n : ℕ) (b : Parts) (group : List Step) → AllByRecursion FitsStep group
    → first_refused n b group ≡ None → StepsAccepted b group
steps_accepted n b [] fits accepted = tt
steps_accepted n b (s ∷ group) fits accepted =
    let none = none_of_both n (refusal b s) (first_refused (suc n) (raw b s) group) accepted in
    (record { fits = fits.0; accepted = none.0 }, steps_accepted (suc n) (raw b s) group fits.1 none.1)

group_fits : (b : Parts) (group : List Step) → StepsAccepted b group → AllByRecursion FitsStep group
group_fits b [] t = tt
group_fits b (s ∷ group) t = (t.0.fits, group_fits (raw b s) group t.1)

group_accepted : (n : ℕ) (b : Parts) (group : List Step) → StepsAccepted b group → first_refused n b group ≡ None
group_accepted n b [] t = refl
group_accepted n b (s ∷ group) t = let here = t.0.accepted in rw here (group_accepted (suc n) (raw b s) group t.1)

-- ---- both

pub undone : edits.UndoRestores
undone b (One s) sound t =
    let u = undone_step b s sound (record { fits = t.fits; accepted = no_cause (refusal b s) t.accepted }) in
    record {
      sound = u.sound;
      is_accepted = record { fits = u.is_accepted.fits; accepted = ap (option_map Of) u.is_accepted.accepted };
      restored = u.restored;
      redone = ap One u.redone;
    }
undone b (Group group) sound t =
    let u = sequence_undone raw inverse IsAccepted undone_step b group sound (steps_accepted 0 b group t.fits t.accepted) in
    record {
      sound = u.sound;
      is_accepted = record { fits = group_fits _ _ u.is_accepted; accepted = group_accepted 0 _ _ u.is_accepted };
      restored = u.restored;
      redone = ap Group u.redone;
    }
