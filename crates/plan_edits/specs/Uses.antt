-- Which instruments and samples are in use.
use Rattle.std.specs.Prelude.{◌≡◌, ◌<◌, ℕ, Bool, true, List, length, Some, slice_get}
use Rattle.std.specs.List.{list_any}
use Rattle.bank_parts.specs.declared.parts.Parts.{Parts}
use Rattle.bank_parts.specs.declared.parts.ZoneOwner.{ZoneOwner}
use Rattle.bank_parts.specs.Owners.{targets}
use Rattle.bank_changes.specs.Instruments.{instrument_in_use}

-- some zone of an instrument targets the sample
abbrev pub sample_targeted : Parts → ℕ → Bool
sample_targeted b number = list_any (targets number) b.instruments

-- each instrument is the target of a preset's zone, and each sample that of an instrument's
pub record HasNoUnused (b : Parts) : Type 0 where
  pub instruments : (i : ℕ) → i < length b.instruments → instrument_in_use b i ≡ true
  pub samples : (s : ℕ) → s < length b.samples → sample_targeted b s ≡ true

-- each number with a mark is the target of an owner's zone
abbrev pub OnlyTargetsMarked : {H : Type 0} → List (ZoneOwner H) → List Bool → Type 0
OnlyTargetsMarked owners marks = (i : ℕ) → slice_get marks i ≡ Some true → list_any (targets i) owners ≡ true
