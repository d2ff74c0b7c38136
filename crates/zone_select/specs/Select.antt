-- The voices of a note.
use Rattle.std.specs.Prelude.{ℕ, Bool, cond, ◌==◌, ◌&&◌, List, [], ◌∷◌, slice_get}
use Rattle.std.specs.List.{flat_map, find}
use Rattle.std.specs.Option.{option_map_or}
use Rattle.script_notes.specs.Notes.{Numbers}
use Rattle.bank_parts.specs.declared.parts.Head.{Head}
use Rattle.bank_parts.specs.declared.parts.GlobalZone.{GlobalZone}
use Rattle.bank_parts.specs.declared.parts.Zone.{Zone}
use Rattle.bank_parts.specs.declared.parts.ZoneOwner.{ZoneOwner}
use Rattle.bank_parts.specs.declared.parts.Sample.{Sample}
use Rattle.bank_parts.specs.declared.parts.Parts.{Parts}
use Rattle.zone_select.specs.declared.parameters.VoiceParameters.{VoiceParameters}
use Rattle.zone_select.specs.Ranges.{holds}
use Rattle.zone_select.specs.ZoneSettings.{ZoneSettings, zone_settings}
use Rattle.zone_select.specs.Amounts.{parameters_of}

-- the points of a voice, and its parameters
pub record Voice : Type 0 where
  pub points : List ℕ
  pub parameters : VoiceParameters

-- the voice of a sample, with the settings of an instrument's zone and of a preset's
unfoldable pub voice_of : Numbers → ZoneSettings → ZoneSettings → Sample → Voice
voice_of n v u s = record { points = s.points; parameters = parameters_of n v u s }

-- for each zone that contains the note, the voices of its target
unfoldable pub voices_of : {X : Type 0} → (ZoneSettings → ℕ → List X) → Numbers → GlobalZone → List Zone → List X
voices_of inside n global zones =
    flat_map (λ (z : Zone). cond (holds n global z) (inside (zone_settings global z) z.target) []) zones

-- the voice of the sample with a number
unfoldable pub sample_voices : Parts → Numbers → ZoneSettings → ZoneSettings → ℕ → List Voice
sample_voices b n u v number = option_map_or (λ (s : Sample). voice_of n v u s ∷ []) (slice_get b.samples number) []

-- the voices of an instrument, with the settings of a preset's zone
unfoldable pub instrument_voices : Parts → Numbers → ZoneSettings → ZoneOwner (List ℕ) → List Voice
instrument_voices b n u i = voices_of (sample_voices b n u) n i.global i.zones

unfoldable pub number_voices : Parts → Numbers → ZoneSettings → ℕ → List Voice
number_voices b n u number = option_map_or (instrument_voices b n u) (slice_get b.instruments number) []

unfoldable pub preset_voices : Parts → Numbers → ZoneOwner Head → List Voice
preset_voices b n p = voices_of (number_voices b n) n p.global p.zones

-- the preset has the note's bank and preset number
unfoldable pub has_preset_numbers : Numbers → ZoneOwner Head → Bool
has_preset_numbers n p = p.head.bank == n.bank && p.head.number == n.number

-- the voices of the first preset with the note's bank and preset number
unfoldable pub selected : Parts → Numbers → List Voice
selected b n = option_map_or (preset_voices b n) (find (has_preset_numbers n) b.presets) []
