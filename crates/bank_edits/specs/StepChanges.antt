-- The result of applying an accepted step.
use Rattle.std.specs.Prelude.{◌≡◌, Result, Ok, Err}
use Rattle.bank_parts.specs.declared.parts.Parts.{Parts}
use Rattle.edit_forms.specs.declared.step.Step.{Step}
use Rattle.edit_forms.specs.Steps.{raw, inverse}

-- the step was applied and its inverse is returned, or an allocation failed and nothing changed
abbrev pub IsStepChange : Parts → Parts → Step → Result Step Step → Type 0
IsStepChange old new s (Ok back) = (new ≡ raw old s) × (back ≡ inverse old s)
IsStepChange old new s (Err given) = (new ≡ old) × (given ≡ s)
