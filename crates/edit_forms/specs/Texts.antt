-- Steps that edit the texts of a bank: their effects, causes of refusal, and inverses.
use Rattle.std.specs.Prelude.{Bool, true, List, [], ◌∷◌}
use Rattle.bank_parts.specs.declared.parts.Parts.{Parts}
use Rattle.bank_parts.specs.Texts.{text_of}
use Rattle.bank_parts.specs.Fits.{FitsText}
use Rattle.bank_changes.specs.Texts.{info_set}
use Rattle.edit_forms.specs.declared.texts.TextStep.{TextStep}
use Rattle.edit_forms.specs.declared.texts.TextStep.TheVariants.{SetInfo}
use Rattle.edit_forms.specs.Causes.{Test, bad_text}

-- each number, name and text is in the range of its field
abbrev pub Fits : TextStep → Type 0
Fits (SetInfo id text) = FitsText text

-- the bank after an accepted step
abbrev pub raw : Parts → TextStep → Parts
raw b (SetInfo id text) = info_set b id text

-- the step's possible causes of refusal, in the order of their numbers
abbrev pub causes : Parts → TextStep → List Test
causes b (SetInfo id text) = bad_text id text ∷ []

-- the inverse step, computed from the bank before the step
abbrev pub inverse : Parts → TextStep → TextStep
inverse b (SetInfo id text) = SetInfo id (text_of b.texts id)

-- applying the step allocates nothing
abbrev pub AllocatesNothing : TextStep → Type 0
AllocatesNothing (SetInfo id text) = Unit {0}

-- the step changes no sound, for any bank
abbrev pub is_neutral : TextStep → Bool
is_neutral s = true
