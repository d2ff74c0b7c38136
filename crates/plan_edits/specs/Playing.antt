-- What remains of a bank of which what some notes play is kept.
use Rattle.std.specs.Prelude.{◌≡◌, ◌==◌, ◌&&◌, ◌<◌, ℕ, Bool, true, false, List, Some, map, slice_get}
use Rattle.std.specs.List.{AllByRecursion, Contains, list_any}
use Rattle.std.specs.Option.{option_map, option_map_or}
use Rattle.bank_parts.specs.declared.parts.Parts.{Parts}
use Rattle.bank_parts.specs.declared.parts.Sample.{Sample}
use Rattle.bank_changes.specs.declared.members.Owner.{Owner}
use Rattle.bank_changes.specs.declared.members.Owner.TheVariants.{Preset, Inst}
use Rattle.bank_changes.specs.Members.{owner_zone_count, target_of}
use Rattle.script_notes.specs.Notes.{Numbers}
use Rattle.zone_select.specs.Select.{selected, has_preset_numbers}
use Rattle.zone_select.specs.Pairs.{pairs}
use Rattle.mixer.specs.Render.{render}
use Rattle.edit_forms.specs.declared.edit.Edit.{Edit}
use Rattle.bank_edits.specs.Runs.{AllAccepted, after_all}
use Rattle.plan_presets.specs.declared.numbers.PresetNumbers.{PresetNumbers}
use Rattle.plan_edits.specs.Uses.{HasNoUnused}
use Rattle.plan_edits.specs.Keeping.{OnlyKept}
use Rattle.plan_edits.specs.declared.zone_set.ZoneSet.{ZoneSet}
use Rattle.plan_edits.specs.ZoneSets.{has_zone}

-- two notes have the same preset, key and velocity
abbrev pub is_like : Numbers → Numbers → Bool
is_like n m = n.bank == m.bank && n.number == m.number && n.key == m.key && n.velocity == m.velocity

-- such a note is in a list
abbrev pub is_among : List Numbers → Numbers → Bool
is_among notes n = list_any (is_like n) notes

-- the same such notes are in both lists
abbrev pub HaveLikeNotes : List Numbers → List Numbers → Type 0
HaveLikeNotes xs ys = (n : Numbers) → is_among xs n ≡ is_among ys n

-- ---- zones that a note selects

-- preset i has the note's bank and preset number
abbrev pub is_number_of : Parts → Numbers → ℕ → Bool
is_number_of b n i = option_map_or (has_preset_numbers n) (slice_get b.presets i) false

-- it is the first with these numbers
abbrev pub IsFirstPreset : Parts → Numbers → ℕ → Type 0
IsFirstPreset b n i = (is_number_of b n i ≡ true) × ((j : ℕ) → j < i → is_number_of b n j ≡ false)

-- A note selects zone k of an owner: of its preset, or of the instrument that a zone of the preset targets.
abbrev pub Selects : Parts → Numbers → Owner → ℕ → Type 0
Selects b n (Preset i) k = IsFirstPreset b n i × ((l : ℕ) × Contains (pairs b n) (k, l))
Selects b n (Inst i) l =
    (p : ℕ) × IsFirstPreset b n p × ((k : ℕ) × (target_of b (Preset p) k ≡ Some i) × Contains (pairs b n) (k, l))

-- a note of the list selects the zone
abbrev pub IsSelected : List Numbers → Parts → Owner → ℕ → Type 0
IsSelected notes b o k = (n : Numbers) × (is_among notes n ≡ true) × Selects b n o k

-- each zone of the set is selected
abbrev pub HasOnlySelected : List Numbers → Parts → ZoneSet → Type 0
HasOnlySelected notes b set = (o : Owner) (k : ℕ) → has_zone set o k ≡ true → IsSelected notes b o k

-- each zone is selected
abbrev pub HasNoUnselected : List Numbers → Parts → Type 0
HasNoUnselected notes b =
    (o : Owner) (count : ℕ) → owner_zone_count b o ≡ Some count → (k : ℕ) → k < count → IsSelected notes b o k

-- the set has each zone of an owner
abbrev pub HasZonesOf : Parts → ZoneSet → Owner → Type 0
HasZonesOf b set o =
    (count : ℕ) → owner_zone_count b o ≡ Some count → (k : ℕ) → k < count → has_zone set o k ≡ true

-- the set has each zone of the bank
abbrev pub HasAllZones : Parts → ZoneSet → Type 0
HasAllZones b set = (o : Owner) → HasZonesOf b set o

-- no zone is added that the note doesn't select
abbrev pub AddsSelected : Parts → Numbers → ZoneSet → ZoneSet → Type 0
AddsSelected b n old new = (o : Owner) (k : ℕ) → has_zone new o k ≡ true → has_zone old o k ≡ false → Selects b n o k

-- ---- samples

-- sample t of the second bank has the points of the sample of the first that is number t of the list
abbrev pub HavePointsOf : List ℕ → List Sample → List Sample → Type 0
HavePointsOf numbers xs ys =
    (t s : ℕ) → slice_get numbers t ≡ Some s
    → option_map (λ (x : Sample). x.points) (slice_get ys t) ≡ option_map (λ (x : Sample). x.points) (slice_get xs s)

-- the note has the same voices in both banks, in the same order
abbrev pub HasSameVoices : Parts → Parts → Numbers → Type 0
HasSameVoices b c n = selected b n ≡ selected c n

-- each note of the list has
abbrev pub HaveSameVoices : List Numbers → Parts → Parts → Type 0
HaveSameVoices notes b c = (i : ℕ) (n : Numbers) → slice_get notes i ≡ Some n → HasSameVoices b c n

-- ---- what remains

-- the numbers of a note's preset
abbrev pub preset_of : Numbers → PresetNumbers
preset_of n = record { bank = n.bank; number = n.number }

-- Each note that is like one of the list has the same voices in both banks. In the second no preset is left that no
-- note plays, no zone that no note selects, and no instrument or sample that no zone uses.
pub record OnlyPlayedIsLeft (notes : List Numbers) (b c : Parts) : Type 0 where
  pub voices : (n : Numbers) → is_among notes n ≡ true → HasSameVoices b c n
  pub only : OnlyKept (map preset_of notes) c
  pub selected : HasNoUnselected notes c
  pub used : HasNoUnused c

-- notes that differ from those of the list in start and length alone render identically
abbrev pub RendersPlayed : List Numbers → Parts → Parts → Type 0
RendersPlayed notes b c =
    (ns : List Numbers) → AllByRecursion (λ n. is_among notes n ≡ true) ns → render b ns ≡ render c ns

-- The edits are accepted in order. Afterwards the notes of the list, with any starts and lengths, render as before. No
-- preset is left that none of them plays, no zone that none of them selects, and no instrument or sample is unused.
pub record IsKeepingPlayed (notes : List Numbers) (b : Parts) (edits : List Edit) : Type 0 where
  pub is_accepted : AllAccepted b edits
  pub same : RendersPlayed notes b (after_all b edits)
  pub only : OnlyKept (map preset_of notes) (after_all b edits)
  pub selected : HasNoUnselected notes (after_all b edits)
  pub used : HasNoUnused (after_all b edits)
