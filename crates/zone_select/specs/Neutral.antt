-- The edits that change no sound, form by form. Each statement is that a relation R holds between the bank before and
-- after the edit: for example that each note has the same voices in both, or that its pairs of zones correspond.
use Rattle.std.specs.Prelude.{◌≡◌, ◌≤◌, ◌<◌, ◌^◌, ℕ, List, length, true, false}
use Rattle.std.specs.List.{list_any}
use Rattle.bank_parts.specs.declared.texts.InfoId.{InfoId}
use Rattle.bank_parts.specs.declared.parts.Kind.{Kind}
use Rattle.bank_parts.specs.declared.parts.Sample.{Sample}
use Rattle.bank_parts.specs.declared.parts.ZoneOwner.{ZoneOwner}
use Rattle.bank_parts.specs.declared.parts.Parts.{Parts}
use Rattle.bank_parts.specs.Owners.{targets}
use Rattle.bank_parts.specs.Valid.{IsValid}
use Rattle.bank_zone_ranges.specs.declared.axes.Axis.{Axis}
use Rattle.bank_zone_ranges.specs.declared.axes.Keep.{Keep}
use Rattle.bank_changes.specs.declared.members.Owner.{Owner}
use Rattle.bank_changes.specs.Samples.{sample_renamed, sample_added, sample_removed, sample_moved}
use Rattle.bank_changes.specs.Points.{kind_set}
use Rattle.bank_changes.specs.Instruments.{instrument_renamed, instrument_added, instrument_removed, instrument_moved}
use Rattle.bank_changes.specs.Zones.{zone_moved, zone_split, zone_joined, can_split, can_join}
use Rattle.bank_changes.specs.Texts.{info_set}

-- no zone of these presets or instruments targets the number
abbrev pub IsUntargeted : {H : Type 0} → List (ZoneOwner H) → ℕ → Type 0
IsUntargeted owners number = list_any (targets number) owners ≡ false

-- ---- samples

-- the sample may be any
abbrev pub SampleAdded : (Parts → Parts → Type 0) → Type 0
SampleAdded R = (b : Parts) (i : ℕ) (s : Sample) → i ≤ length b.samples → R b (sample_added b i s)

-- samples that link to it don't matter
abbrev pub SampleRemoved : (Parts → Parts → Type 0) → Type 0
SampleRemoved R = (b : Parts) (i : ℕ) → IsUntargeted b.instruments i → R b (sample_removed b i)

abbrev pub SampleMoved : (Parts → Parts → Type 0) → Type 0
SampleMoved R = (b : Parts) (i j : ℕ) → i < length b.samples → j < length b.samples → R b (sample_moved b i j)

abbrev pub SampleRenamed : (Parts → Parts → Type 0) → Type 0
SampleRenamed R = (b : Parts) (i : ℕ) (name : List ℕ) → R b (sample_renamed b i name)

abbrev pub KindSet : (Parts → Parts → Type 0) → Type 0
KindSet R = (b : Parts) (i : ℕ) (kind : Kind) → R b (kind_set b i kind)

-- ---- instruments

-- the instrument may be any
abbrev pub InstrumentAdded : (Parts → Parts → Type 0) → Type 0
InstrumentAdded R = (b : Parts) (i : ℕ) (x : ZoneOwner (List ℕ)) → i ≤ length b.instruments
    → R b (instrument_added b i x)

abbrev pub InstrumentRemoved : (Parts → Parts → Type 0) → Type 0
InstrumentRemoved R = (b : Parts) (i : ℕ) → IsUntargeted b.presets i → R b (instrument_removed b i)

abbrev pub InstrumentMoved : (Parts → Parts → Type 0) → Type 0
InstrumentMoved R = (b : Parts) (i j : ℕ) → i < length b.instruments → j < length b.instruments
    → R b (instrument_moved b i j)

abbrev pub InstrumentRenamed : (Parts → Parts → Type 0) → Type 0
InstrumentRenamed R = (b : Parts) (i : ℕ) (name : List ℕ) → R b (instrument_renamed b i name)

-- ---- zones of a preset or an instrument

abbrev pub ZoneMoved : (Parts → Parts → Type 0) → Type 0
ZoneMoved R = (b : Parts) (o : Owner) (from to : ℕ) → R b (zone_moved b o from to)

abbrev pub ZoneSplit : (Parts → Parts → Type 0) → Type 0
ZoneSplit R = (b : Parts) (o : Owner) (k : ℕ) (axis : Axis) (m : ℕ) → m < 2 ^ 8 → can_split b o k axis m ≡ true
    → R b (zone_split b o k axis m)

-- in a valid bank no range ends before it begins
abbrev pub ZoneJoined : (Parts → Parts → Type 0) → Type 0
ZoneJoined R = (b : Parts) (o : Owner) (k : ℕ) (axis : Axis) (keep : Keep) → IsValid b
    → can_join b o k axis keep ≡ true → R b (zone_joined b o k axis keep)

-- ---- texts

abbrev pub InfoSet : (Parts → Parts → Type 0) → Type 0
InfoSet R = (b : Parts) (id : InfoId) (text : List ℕ) → R b (info_set b id text)
