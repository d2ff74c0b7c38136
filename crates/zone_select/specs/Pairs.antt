-- The voices of a note by pairs of zone numbers.
use Rattle.std.specs.Prelude.{◌≡◌, ℕ, Bool, false, List, [], ◌∷◌, length, map, Option, Some, None, cond, slice_get, ◌-◌}
use Rattle.std.specs.List.{flat_map, find, filter, range_with_len}
use Rattle.std.specs.Option.{option_map_or, option_map, option_and_then}
use Rattle.script_notes.specs.Notes.{Numbers}
use Rattle.bank_parts.specs.declared.parts.Head.{Head}
use Rattle.bank_parts.specs.declared.parts.GlobalZone.{GlobalZone}
use Rattle.bank_parts.specs.declared.parts.Zone.{Zone}
use Rattle.bank_parts.specs.declared.parts.ZoneOwner.{ZoneOwner}
use Rattle.bank_parts.specs.declared.parts.Parts.{Parts}
use Rattle.zone_select.specs.Ranges.{holds}
use Rattle.zone_select.specs.ZoneSettings.{ZoneSettings, zone_settings}
use Rattle.zone_select.specs.Select.{Voice, voice_of, has_preset_numbers, selected}

-- ---- the pairs

-- zone k exists and contains the note
abbrev pub holds_at : Numbers → GlobalZone → List Zone → ℕ → Bool
holds_at n global zones k = option_map_or (holds n global) (slice_get zones k) false

-- the numbers of the zones that contain the note, from k on, in ascending order
abbrev pub held : Numbers → GlobalZone → List Zone → ℕ → List ℕ
held n global zones k = filter (holds_at n global zones) (range_with_len k (length zones - k))

-- those numbers for the zones of an instrument
abbrev pub held_inside : Parts → Numbers → ℕ → ℕ → List ℕ
held_inside b n number k =
    option_map_or (λ (i : ZoneOwner (List ℕ)). held n i.global i.zones k) (slice_get b.instruments number) []

-- the pairs of zone k of the preset
abbrev pub pairs_at : Parts → Numbers → List Zone → ℕ → List (ℕ × ℕ)
pairs_at b n zones k =
    option_map_or (λ (z : Zone). map (λ (l : ℕ). let q : ℕ × ℕ = (k, l) in q) (held_inside b n z.target 0))
    (slice_get zones k) []

-- the pairs (a zone of the preset, a zone of its instrument) of zones that contain the note, in ascending order
unfoldable pub pairs : Parts → Numbers → List (ℕ × ℕ)
pairs b n =
    option_map_or (λ (p : ZoneOwner Head). flat_map (pairs_at b n p.zones) (held n p.global p.zones 0))
    (find (has_preset_numbers n) b.presets) []

-- ---- the zones of a pair

-- the settings of its two zones, and the number of its sample
pub record SelectedPair : Type 0 where
  pub instrument_zone : ZoneSettings
  pub preset_zone : ZoneSettings
  pub sample : ℕ

-- zone k, if it contains the note
abbrev pub zone_held : Numbers → GlobalZone → List Zone → ℕ → Option Zone
zone_held n global zones k = option_and_then (λ (z : Zone). cond (holds n global z) (Some z) None) (slice_get zones k)

abbrev pub pair_of_instrument : Numbers → ZoneSettings → ℕ → ZoneOwner (List ℕ) → Option SelectedPair
pair_of_instrument n u l i =
    option_map (λ (y : Zone). record { instrument_zone = zone_settings i.global y; preset_zone = u; sample = y.target })
    (zone_held n i.global i.zones l)

abbrev pub pair_of_zone : Parts → Numbers → GlobalZone → ℕ → Zone → Option SelectedPair
pair_of_zone b n global l z =
    option_and_then (pair_of_instrument n (zone_settings global z) l) (slice_get b.instruments z.target)

abbrev pub pair_of_preset : Parts → Numbers → ℕ × ℕ → ZoneOwner Head → Option SelectedPair
pair_of_preset b n q p = option_and_then (pair_of_zone b n p.global q.1) (zone_held n p.global p.zones q.0)

-- the zones of a pair, if both contain the note
unfoldable pub selected_pair : Parts → Numbers → ℕ × ℕ → Option SelectedPair
selected_pair b n q = option_and_then (pair_of_preset b n q) (find (has_preset_numbers n) b.presets)

-- the voice of a pair: its sample's points, and its parameters
abbrev pub selected_pair_voice : Parts → Numbers → SelectedPair → Option Voice
selected_pair_voice b n c = option_map (voice_of n c.instrument_zone c.preset_zone) (slice_get b.samples c.sample)

abbrev pub voice_by : Parts → Numbers → ℕ × ℕ → Option Voice
voice_by b n q = option_and_then (selected_pair_voice b n) (selected_pair b n q)

abbrev pub listed : Option Voice → List Voice
listed o = option_map_or (λ v. v ∷ []) o []

-- the voices that a note selects are those of its pairs, in order
abbrev pub SelectedByPairs : Type 0
SelectedByPairs = (b : Parts) (n : Numbers) → flat_map (λ q. listed (voice_by b n q)) (pairs b n) ≡ selected b n
