-- The tests of whether an edit is refused, each with its cause.
use Rattle.std.specs.Prelude.{ℕ, ◌+◌, ◌==◌, ◌||◌, ◌&&◌, nat_le, nat_lt, not, Bool, false, Option, Some, None, List}
use Rattle.std.specs.Prelude.{[], ◌∷◌, length, unwrap_or, if◌then◌else◌}
use Rattle.std.specs.List.{list_any}
use Rattle.std.specs.Option.{is_some}
use Rattle.generators.specs.declared.level.Level.{Level}
use Rattle.generators.specs.Levels.{is_allowed}
use Rattle.modulators.specs.declared.modulator.Modulator.{Modulator}
use Rattle.modulators.specs.Modulators.{is_link}
use Rattle.bank_parts.specs.declared.texts.InfoId.{InfoId}
use Rattle.bank_parts.specs.declared.parts.Kind.{Kind}
use Rattle.bank_parts.specs.declared.parts.Kind.TheVariants.{Mono, Right, Left, Linked}
use Rattle.bank_parts.specs.declared.parts.Zone.{Zone}
use Rattle.bank_parts.specs.declared.parts.ZoneOwner.{ZoneOwner}
use Rattle.bank_parts.specs.declared.parts.Sample.{Sample}
use Rattle.bank_parts.specs.declared.parts.Parts.{Parts}
use Rattle.bank_parts.specs.Texts.{most_bytes, is_engine}
use Rattle.bank_parts.specs.Contents.{has_missing_target, sets_bad_generator, has_bad_generator, is_bad_range, sets_bad_range}
use Rattle.bank_parts.specs.Contents.{has_bad_range}
use Rattle.bank_zone_ranges.specs.declared.axes.Axis.{Axis}
use Rattle.bank_zone_ranges.specs.declared.axes.Keep.{Keep}
use Rattle.bank_changes.specs.declared.members.Owner.{Owner}
use Rattle.bank_changes.specs.declared.members.Owner.TheVariants as owner
use Rattle.bank_changes.specs.declared.members.Place.{Place}
use Rattle.bank_changes.specs.declared.members.Place.TheVariants as place
use Rattle.bank_changes.specs.Members.{owner_zone_count, target_count, mods_of, amount_of}
use Rattle.bank_changes.specs.Zones.{can_split, can_join}
use Rattle.bank_changes.specs.Instruments.{instrument_in_use}
use Rattle.bank_changes.specs.Samples.{sample_in_use}
use Rattle.bank_changes.specs.Points.{points_of, loop_of}
use Rattle.edit_forms.specs.declared.cause.Cause.{Cause}
use Rattle.edit_forms.specs.declared.cause.Cause.TheVariants.{NoSuchPreset, NoSuchInstrument, NoSuchSample}
use Rattle.edit_forms.specs.declared.cause.Cause.TheVariants.{NoSuchZone, NoSuchModulator, BadPlace, InUse}
use Rattle.edit_forms.specs.declared.cause.Cause.TheVariants.{BadGenerator, NotSet, BadRange, SplitOutside}
use Rattle.edit_forms.specs.declared.cause.Cause.TheVariants.{NotJoinable, LinkedModulator, TooShort, LoopCut}
use Rattle.edit_forms.specs.declared.cause.Cause.TheVariants.{BadLoop, BadText}

-- a cause of refusal, and whether it applies
pub record Test : Type 0 where
  pub applies : Bool
  pub cause : Cause

abbrev pub test : Bool → Cause → Test
test applies cause = record { applies = applies; cause = cause }

-- the first cause that applies, otherwise `last`
abbrev pub first_cause : List Test → Option Cause → Option Cause
first_cause [] last = last
first_cause (t ∷ others) last = if t.applies then Some t.cause else first_cause others last

-- ---- presets and instruments

abbrev pub no_such_preset : Parts → ℕ → Test
no_such_preset b preset = test (nat_le (length b.presets) preset) NoSuchPreset

abbrev pub no_such_instrument : Parts → ℕ → Test
no_such_instrument b instrument = test (nat_le (length b.instruments) instrument) NoSuchInstrument

-- a zone of a preset targets the instrument
abbrev pub used_instrument : Parts → ℕ → Test
used_instrument b instrument = test (instrument_in_use b instrument) InUse

abbrev pub no_such_owner : Parts → Owner → Test
no_such_owner b (owner.Preset p) = no_such_preset b p
no_such_owner b (owner.Inst i) = no_such_instrument b i

-- ---- zones of a preset or an instrument

-- the number of zones of an owner without its global zone; 0 if there is no such owner
abbrev pub zone_total : Parts → Owner → ℕ
zone_total b o = unwrap_or (owner_zone_count b o) 0

abbrev pub no_such_zone : Parts → Owner → ℕ → Test
no_such_zone b o k = test (nat_le (zone_total b o) k) NoSuchZone

-- every owner has a global zone
abbrev pub no_such_zone_at : Parts → Owner → Place → Test
no_such_zone_at b o place.Global = test false NoSuchZone
no_such_zone_at b o (place.Zone k) = no_such_zone b o k

-- the cause for a target that does not exist
abbrev pub target_cause : Owner → Cause
target_cause (owner.Preset p) = NoSuchInstrument
target_cause (owner.Inst i) = NoSuchSample

-- the target of a zone exists: an instrument for a preset, a sample for an instrument
abbrev pub no_such_target_of : Parts → Owner → ℕ → Test
no_such_target_of b o target = test (nat_le (target_count b o) target) (target_cause o)

-- the operators and ranges of one zone

abbrev pub bad_zone_generator : Level → Zone → Test
bad_zone_generator at zone = test (sets_bad_generator at zone.gens) BadGenerator

abbrev pub bad_zone_range : Zone → Test
bad_zone_range zone = test (sets_bad_range zone.gens) BadRange

-- not `lo < M <= hi` for the effective range of the zone
abbrev pub split_outside : Parts → Owner → ℕ → Axis → ℕ → Test
split_outside b o k axis m = test (not (can_split b o k axis m)) SplitOutside

-- the zone and the next differ in more than their own ranges on the axis, their ranges are not adjacent,
-- or without a range of its own the joined zone would have another effective range
abbrev pub not_joinable : Parts → Owner → ℕ → Axis → Keep → Test
not_joinable b o k axis keep = test (not (can_join b o k axis keep)) NotJoinable

-- ---- generators and modulators of a place

abbrev pub foreign_operator : Level → ℕ → Test
foreign_operator at op = test (not (is_allowed at op)) BadGenerator

-- not `low <= high <= 127`
abbrev pub bad_amount : ℕ → ℕ → Test
bad_amount op amount = test (is_bad_range (op, amount)) BadRange

abbrev pub not_set : Parts → Owner → Place → ℕ → Test
not_set b o at op = test (not (is_some (amount_of b o at op))) NotSet

-- the modulators of a place; none if there is no such place
abbrev pub mods_there : Parts → Owner → Place → List Modulator
mods_there b o at = unwrap_or (mods_of b o at) []

abbrev pub no_such_modulator : Parts → Owner → Place → ℕ → Test
no_such_modulator b o at j = test (nat_le (length (mods_there b o at)) j) NoSuchModulator

-- a link refers to modulators by number, so inserting or removing one would change its meaning
abbrev pub linked_place : Parts → Owner → Place → Test
linked_place b o at = test (list_any is_link (mods_there b o at)) LinkedModulator

abbrev pub linked_modulator : Parts → Owner → Place → Modulator → Test
linked_modulator b o at m = test (list_any is_link (mods_there b o at) || is_link m) LinkedModulator

-- ---- presets or instruments to be added

-- the target of a zone is not below `count`
abbrev pub no_such_target : {H : Type 0} → ℕ → ZoneOwner H → Cause → Test
no_such_target count x cause = test (has_missing_target count x) cause

-- an operator that the level does not allow; target operators are included
abbrev pub bad_generator : {H : Type 0} → Level → ZoneOwner H → Test
bad_generator at x = test (has_bad_generator at x) BadGenerator

-- a range without `low <= high <= 127`
abbrev pub bad_range : {H : Type 0} → ZoneOwner H → Test
bad_range x = test (has_bad_range x) BadRange

-- ---- samples

abbrev pub no_such_sample : Parts → ℕ → Test
no_such_sample b sample = test (nat_le (length b.samples) sample) NoSuchSample

-- the link is not below `count`
abbrev pub link_misses : ℕ → Kind → Bool
link_misses count Mono = false
link_misses count (Right link) = nat_le count link
link_misses count (Left link) = nat_le count link
link_misses count (Linked link) = nat_le count link

-- the link of an added sample may be itself or any other sample
abbrev pub no_such_link : Parts → Kind → Test
no_such_link b kind = test (link_misses (length b.samples + 1) kind) NoSuchSample

-- not `A < B <= length`
abbrev pub loop_misses : ℕ → Option (ℕ × ℕ) → Bool
loop_misses count None = false
loop_misses count (Some looped) = nat_le looped.1 looped.0 || nat_lt count looped.1

abbrev pub bad_loop : Sample → Test
bad_loop sample = test (loop_misses (length sample.points) sample.looped) BadLoop

-- the link of an existing sample may be itself or any other sample
abbrev pub no_such_link_among : Parts → Kind → Test
no_such_link_among b kind = test (link_misses (length b.samples) kind) NoSuchSample

abbrev pub bad_loop_of : Parts → ℕ → Option (ℕ × ℕ) → Test
bad_loop_of b sample looped = test (loop_misses (length (points_of b sample)) looped) BadLoop

-- fewer points than the trim removes
abbrev pub too_short : Parts → ℕ → ℕ → ℕ → Test
too_short b sample front back = test (nat_lt (length (points_of b sample)) (front + back)) TooShort

-- the trim would remove points of the loop
abbrev pub cuts_loop : ℕ → ℕ → ℕ → Option (ℕ × ℕ) → Bool
cuts_loop count front back None = false
cuts_loop count front back (Some looped) = nat_lt looped.0 front || nat_lt count (looped.1 + back)

abbrev pub loop_cut : Parts → ℕ → ℕ → ℕ → Test
loop_cut b sample front back = test (cuts_loop (length (points_of b sample)) front back (loop_of b sample)) LoopCut

-- a zone targets the sample, or another sample links to it
abbrev pub used_sample : Parts → ℕ → Test
used_sample b sample = test (sample_in_use b sample) InUse

-- ---- indexes

-- an index at which nothing can be inserted in a list of this length
abbrev pub bad_insert_index : ℕ → ℕ → Test
bad_insert_index count at = test (nat_lt count at) BadPlace

-- not the index of a member of a list of this length
abbrev pub bad_member_index : ℕ → ℕ → Test
bad_member_index count at = test (nat_le count at) BadPlace

-- ---- texts

-- longer than its limit, with a zero byte, or an empty engine
abbrev pub bad_text : InfoId → List ℕ → Test
bad_text id text = test
    (nat_lt (most_bytes id) (length text) || (list_any (λ byte. byte == 0) text || (is_engine id && length text == 0)))
    BadText
