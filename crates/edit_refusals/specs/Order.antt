-- The causes of a step are in the order of their numbers, so the reported cause has the lowest number.
use Rattle.std.specs.Prelude.{◌≡◌, ◌≤◌, true, Some, MatchOption, ◌⊎◌}
use Rattle.std.specs.Option.{option_map}
use Rattle.std.specs.List.{Any}
use Rattle.std.specs.List.Sorted.{IsNonDecreasingBy}
use Rattle.bank_parts.specs.declared.parts.Parts.{Parts}
use Rattle.bank_validity.specs.Limits.{broken_limit}
use Rattle.edit_forms.specs.declared.step.Step.{Step}
use Rattle.edit_forms.specs.declared.cause.Cause.{Cause}
use Rattle.edit_forms.specs.declared.cause.Cause.TheVariants.{Full}
use Rattle.edit_forms.specs.CauseNames.{number_of}
use Rattle.edit_forms.specs.Causes.{Test}
use Rattle.edit_forms.specs.Steps.{raw, causes, refusal}

-- the numbers of a step's tests are non-decreasing
abbrev pub NumbersNeverFall : Type 0
NumbersNeverFall = (b : Parts) (s : Step) → IsNonDecreasingBy (λ (t : Test). number_of t.cause) (causes b s)

-- the cause applies: by a test of the step, or as the first limit that the changed bank would break
abbrev pub CauseApplies : Parts → Step → Cause → Type 0
CauseApplies b s cause =
    Any (λ (t : Test). (t.applies ≡ true) × (t.cause ≡ cause)) (causes b s)
    ⊎ (option_map Full (broken_limit (raw b s)) ≡ Some cause)

-- the cause applies, and no other that applies has a lower number
pub record IsLowest (b : Parts) (s : Step) (cause : Cause) : Type 0 where
  pub applies : CauseApplies b s cause
  pub lowest : (other : Cause) → CauseApplies b s other → number_of cause ≤ number_of other

-- the reported cause is the lowest that applies; none is reported only if none applies
abbrev pub LowestIsReported : Type 0
LowestIsReported =
    (b : Parts) (s : Step) → MatchOption (refusal b s) ((other : Cause) → CauseApplies b s other → ⊥) (IsLowest b s)
