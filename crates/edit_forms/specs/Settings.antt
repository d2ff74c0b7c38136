-- Steps that edit the generators and modulators of a place (a global zone or a zone): their effects, causes of
-- refusal, and inverses.
use Rattle.std.specs.Prelude.{◌<◌, ◌^◌, ℕ, Bool, false, List, [], ◌∷◌, length}
use Rattle.std.specs.Option.{option_map_or}
use Rattle.modulators.specs.declared.modulator.Modulator.{Modulator}
use Rattle.modulators.specs.Modulators.{FitsModulator}
use Rattle.bank_parts.specs.declared.parts.Parts.{Parts}
use Rattle.bank_changes.specs.declared.members.Owner.{Owner}
use Rattle.bank_changes.specs.declared.members.Place.{Place}
use Rattle.bank_changes.specs.Members.{level_of, amount_of, mod_at}
use Rattle.bank_changes.specs.Settings.{gen_set, gen_cleared, mod_added, mod_removed, mod_set}
use Rattle.edit_forms.specs.declared.settings.SettingStep.{SettingStep}
use Rattle.edit_forms.specs.declared.settings.SettingStep.TheVariants.{SetGen, ClearGen, AddMod, RemoveMod, SetMod}
use Rattle.edit_forms.specs.Causes.{Test, bad_insert_index, mods_there, no_such_modulator, linked_place, linked_modulator}
use Rattle.edit_forms.specs.Causes.{foreign_operator, bad_amount, not_set}

-- each number, name and text is in the range of its field
abbrev pub Fits : SettingStep → Type 0
Fits (SetGen operator amount) = (operator < 2 ^ 16) × (amount < 2 ^ 16)
Fits (ClearGen operator) = operator < 2 ^ 16
Fits (AddMod index modulator) = (index < 2 ^ 32) × FitsModulator modulator
Fits (RemoveMod index) = index < 2 ^ 32
Fits (SetMod index modulator) = (index < 2 ^ 32) × FitsModulator modulator

-- the bank after an accepted step
abbrev pub raw : Parts → Owner → Place → SettingStep → Parts
raw b o at (SetGen operator amount) = gen_set b o at operator amount
raw b o at (ClearGen operator) = gen_cleared b o at operator
raw b o at (AddMod index modulator) = mod_added b o at index modulator
raw b o at (RemoveMod index) = mod_removed b o at index
raw b o at (SetMod index modulator) = mod_set b o at index modulator

-- the step's possible causes of refusal, in the order of their numbers
abbrev pub causes : Parts → Owner → Place → SettingStep → List Test
causes b o at (SetGen operator amount) = foreign_operator (level_of o) operator ∷ bad_amount operator amount ∷ []
causes b o at (ClearGen operator) = foreign_operator (level_of o) operator ∷ not_set b o at operator ∷ []
causes b o at (AddMod index modulator) =
    bad_insert_index (length (mods_there b o at)) index ∷ linked_modulator b o at modulator ∷ []
causes b o at (RemoveMod index) = no_such_modulator b o at index ∷ linked_place b o at ∷ []
causes b o at (SetMod index modulator) = no_such_modulator b o at index ∷ linked_modulator b o at modulator ∷ []

-- the inverse step, computed from the bank before the step
abbrev pub inverse : Parts → Owner → Place → SettingStep → SettingStep
inverse b o at (SetGen operator amount) =
    option_map_or (λ (was : ℕ). SetGen operator was) (amount_of b o at operator) (ClearGen operator)
inverse b o at (ClearGen operator) =
    option_map_or (λ (was : ℕ). SetGen operator was) (amount_of b o at operator) (ClearGen operator)
inverse b o at (AddMod index modulator) = RemoveMod index
inverse b o at (RemoveMod index) =
    option_map_or (λ (m : Modulator). AddMod index m) (mod_at b o at index) (RemoveMod index)
inverse b o at (SetMod index modulator) =
    option_map_or (λ (m : Modulator). SetMod index m) (mod_at b o at index) (SetMod index modulator)

-- applying the step allocates nothing
abbrev pub AllocatesNothing : SettingStep → Type 0
AllocatesNothing s = ⊥

-- the step changes no sound, for any bank
abbrev pub is_neutral : SettingStep → Bool
is_neutral s = false
