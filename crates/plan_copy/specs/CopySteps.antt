-- The step that adds a copy.
use Rattle.std.specs.Prelude.{◌≡◌, ℕ, true, List, Option, Ok}
use Rattle.bank_parts.specs.declared.parts.Parts.{Parts}
use Rattle.edit_forms.specs.declared.step.Step.{Step}
use Rattle.edit_forms.specs.Steps.{raw, is_neutral_step}
use Rattle.plan_presets.specs.declared.numbers.CopiedMember.{CopiedMember}
use Rattle.plan_presets.specs.declared.numbers.CopiedMember.TheVariants.{Preset, Inst, Sample}
use Rattle.plan_copy.specs.Copying.{copied}

-- a step that adds an instrument or a sample is neutral
abbrev pub IsNeutralCopy : CopiedMember → Step → Type 0
IsNeutralCopy (Preset i given) s = Unit {0}
IsNeutralCopy (Inst i) s = is_neutral_step s ≡ true
IsNeutralCopy (Sample i) s = is_neutral_step s ≡ true

-- The step adds the copy.
pub record IsCopyStep (b : Parts) (member : CopiedMember) (name : Option (List ℕ)) (s : Step) : Type 0 where
  pub result : copied b member name ≡ Ok (raw b s)
  pub neutral : IsNeutralCopy member s
