-- The effect and the refusal of an edit.
use Rattle.std.specs.Prelude.{ℕ, suc, Option, Some, None, List, [], ◌∷◌}
use Rattle.std.specs.Option.{option_map}
use Rattle.bank_parts.specs.declared.parts.Parts.{Parts}
use Rattle.edit_forms.specs.declared.step.Step.{Step}
use Rattle.edit_forms.specs.declared.edit.Edit.{Edit}
use Rattle.edit_forms.specs.declared.edit.Edit.TheVariants.{One, Group}
use Rattle.edit_forms.specs.declared.cause.Cause.{Cause}
use Rattle.edit_refusals.specs.declared.refusal.Refusal.{Refusal}
use Rattle.edit_refusals.specs.declared.refusal.Refusal.TheVariants.{Of, GroupRefused}
use Rattle.edit_forms.specs.Steps as steps
use Rattle.edit_refusals.specs.Sequences.{after_all}

-- the bank after an accepted edit
abbrev pub raw : Parts → Edit → Parts
raw b (One step) = steps.raw b step
raw b (Group group) = after_all steps.raw b group

abbrev pub or_later : ℕ → Option Cause → Option Refusal → Option Refusal
or_later n (Some cause) later = Some (GroupRefused n cause)
or_later n None later = later

-- the first step of a group that is refused, each on the bank after the steps before it; the first has number n
abbrev pub first_refused : ℕ → Parts → List Step → Option Refusal
first_refused n b [] = None
first_refused n b (s ∷ group) = or_later n (steps.refusal b s) (first_refused (suc n) (steps.raw b s) group)

-- why the edit is refused; none if it is accepted
abbrev pub refusal : Parts → Edit → Option Refusal
refusal b (One step) = option_map Of (steps.refusal b step)
refusal b (Group group) = first_refused 0 b group
