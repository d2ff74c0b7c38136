-- The lists that g makes of the voices of a note's zones, one after another; g gets `None` for a missing sample.
use Rattle.std.specs.Prelude.{ℕ, List, [], Option, slice_get}
use Rattle.std.specs.List.{find}
use Rattle.std.specs.List.Sorted.{IsPermutation}
use Rattle.std.specs.Option.{option_map_or, option_map}
use Rattle.script_notes.specs.Notes.{Numbers}
use Rattle.bank_parts.specs.declared.parts.Head.{Head}
use Rattle.bank_parts.specs.declared.parts.ZoneOwner.{ZoneOwner}
use Rattle.bank_parts.specs.declared.parts.Parts.{Parts}
use Rattle.zone_select.specs.ZoneSettings.{ZoneSettings}
use Rattle.zone_select.specs.Select.{Voice, voice_of, voices_of, has_preset_numbers}

unfoldable pub sample_given : {X : Type 0} → (Option Voice → List X) → Parts → Numbers → ZoneSettings → ZoneSettings → ℕ → List X
sample_given g b n u v number = g (option_map (voice_of n v u) (slice_get b.samples number))

unfoldable pub instrument_given : {X : Type 0} → (Option Voice → List X) → Parts → Numbers → ZoneSettings
    → ZoneOwner (List ℕ)
    → List X
instrument_given g b n u i = voices_of (sample_given g b n u) n i.global i.zones

unfoldable pub number_given : {X : Type 0} → (Option Voice → List X) → Parts → Numbers → ZoneSettings → ℕ → List X
number_given g b n u number = option_map_or (instrument_given g b n u) (slice_get b.instruments number) []

unfoldable pub preset_given : {X : Type 0} → (Option Voice → List X) → Parts → Numbers → ZoneOwner Head → List X
preset_given g b n p = voices_of (number_given g b n) n p.global p.zones

unfoldable pub given : {X : Type 0} → (Option Voice → List X) → Parts → Numbers → List X
given g b n = option_map_or (preset_given g b n) (find (has_preset_numbers n) b.presets) []

-- banks in which g makes the same lists for each note, in some order
abbrev pub GivenAlike : {X : Type 0} → (Option Voice → List X) → Parts → Parts → Type 0
GivenAlike g b c = (n : Numbers) → IsPermutation (given g b n) (given g c n)
