-- Splits and joins of zones: each keeps a bank sound, and what the totals are then.
use Rattle.std.proofs.Common.{◌≡◌, ◌+◌, ◌<◌, ◌-◌, ℕ, true, List, length, remove, slice_get, Some, None, IsSome, refl}
use Rattle.std.proofs.Common.{ap, ◌∙◌, arith, add-one}
use Rattle.std.specs.Prelude.{sum_by, slice_set, IsSomeAnd}
use Rattle.std.specs.Option.{option_map_or}
use Rattle.std.specs.FinMap.{len}
use Rattle.std.proofs.lemmas.List.Sums.{sum_by-insert}
use Rattle.base_numbered_lists.proofs.Lists.{slice_get-within}
use Rattle.generators.proofs.MapLaws.{len-insert_absent, len-insert_present, len-remove_present}
use Rattle.bank_parts.specs.declared.counting.Records.{Records}
use Rattle.bank_parts.specs.declared.parts.GlobalZone.{GlobalZone}
use Rattle.bank_parts.specs.declared.parts.Zone.{Zone}
use Rattle.bank_parts.specs.declared.parts.Parts.{Parts}
use Rattle.bank_parts.specs.Counts.{records_sum}
use Rattle.bank_parts.specs.declared.parts.ZoneOwner.{ZoneOwner}
use Rattle.bank_parts.specs.Valid.{IsZone}
use Rattle.bank_parts.specs.Fits.{FitsZone}
use Rattle.bank_parts.specs.Sound.{IsSound}
use Rattle.bank_validity.specs.Limits.{totals_of, broken, broken_limit, with_records}
use Rattle.bank_validity.proofs.LimitLaws.{no_limit_of}
use Rattle.bank_zone_ranges.specs.declared.axes.Axis.{Axis}
use Rattle.bank_zone_ranges.specs.declared.axes.Keep.{Keep}
use Rattle.bank_zone_ranges.specs.declared.axes.Keep.TheVariants as keeping
use Rattle.bank_zone_ranges.specs.Ranges.{range_operator, low_end, high_end, range_from, range_of, own_range, with_range}
use Rattle.bank_zone_ranges.specs.Splits.{is_split_point, lower_zone, upper_zone, split_in_two, merged, joint_range, joined}
use Rattle.bank_zone_ranges.specs.Splits.{are_joinable, records_with, split_records}
use Rattle.bank_zone_ranges.specs.Undone.{own_amount}
use Rattle.bank_zone_ranges.proofs.SplitLists.{halves_at, all_split, all_merged, all_at, left_first}
use Rattle.bank_zone_ranges.proofs.SplitLaws.{split_at, joined_at}
use Rattle.bank_zone_ranges.proofs.Existing.{ZoneThere, split_there, join_there, zones_there, split_is_put, join_is_put}
use Rattle.bank_zone_ranges.proofs.PartLaws.{valid_with, fits_with, range_holds, own_holds, lower_is_range}
use Rattle.bank_zone_ranges.proofs.PartLaws.{upper_is_range, joined_range, valid_joined, fits_joined}
use Rattle.bank_changes.specs.declared.members.Owner.{Owner}
use Rattle.bank_changes.specs.declared.members.Owner.TheVariants as owner
use Rattle.bank_changes.specs.declared.members.Place.TheVariants as place
use Rattle.bank_changes.specs.Members.{owner_zone_count, settings_of, zones_of, zone_of, level_of, target_count}
use Rattle.bank_changes.specs.Zones.{zone_split, zone_joined, can_split, can_join}
use Rattle.bank_changes.proofs.Changes.{sum-removed, sum-exchanged}
use Rattle.bank_changes.proofs.PlaceLaws.{gens_of_sound}
use Rattle.bank_changes.proofs.TotalsLaws.{fewer_records_within}
use Rattle.bank_changes.proofs.ZoneChangeLaws.{own_count, zone_is, with_presets, with_instruments}
use Rattle.bank_changes.proofs.ZoneLaws.{zones_put, sound_zones_put, zones_valid, zones_fit, records_of_zones}
use Rattle.bank_changes.proofs.ZoneLaws.{totals_zones_more, totals_zones_less}

-- the records that a join removes: those of the second zone, and the range of the first if none is kept
abbrev join_records : Keep → Zone → Records
join_records keeping.Keep z = records_with 1 z
join_records keeping.Bare z = records_with 2 z

-- ---- zones that exist

-- zone k of an owner
pub record OwnZone (b : Parts) (o : Owner) (k : ℕ) : Type 0 where
  pub global : GlobalZone
  pub global_there : settings_of b o place.Global ≡ Some global
  pub zones : List Zone
  pub there : zones_of b o ≡ Some zones
  pub zone : Zone
  pub at : slice_get zones k ≡ Some zone

-- the zone in the list of presets or of instruments
abbrev own_zone : {H : Type 0} {owners : List (ZoneOwner H)} {i : ℕ} (b : Parts) (o : Owner) (k : ℕ)
    (t : ZoneThere owners i k)
    → settings_of b o place.Global ≡ Some t.member.global → zones_of b o ≡ Some t.member.zones → OwnZone b o k
own_zone b o k t global zones = record {
  global = t.member.global;
  global_there = global;
  zones = t.member.zones;
  there = zones;
  zone = t.zone;
  at = t.zone_there;
}

pub record Split (b : Parts) (o : Owner) (k : ℕ) (axis : Axis) (m : ℕ) : Type 0 where
  pub own : OwnZone b o k
  pub inside : is_split_point axis m own.global own.zone ≡ true
  pub put : zone_split b o k axis m
      ≡ zones_put b o
      (split_in_two own.zones k (lower_zone axis m own.global own.zone) (upper_zone axis m own.global own.zone))

pub split : (b : Parts) (o : Owner) (k : ℕ) (axis : Axis) (m : ℕ) → can_split b o k axis m ≡ true → Split b o k axis m
split b (owner.Preset p) k axis m h =
    let s = split_there axis m b.presets p k h in
    record {
      own = own_zone b (owner.Preset p) k s.at (rw s.at.there refl) (zones_there b.presets p k s.at);
      inside = s.inside;
      put = ap (with_presets b) (split_is_put b.presets p k s.at axis m);
    }
split b (owner.Inst i) k axis m h =
    let s = split_there axis m b.instruments i k h in
    record {
      own = own_zone b (owner.Inst i) k s.at (rw s.at.there refl) (zones_there b.instruments i k s.at);
      inside = s.inside;
      put = ap (with_instruments b) (split_is_put b.instruments i k s.at axis m);
    }

pub record Join (b : Parts) (o : Owner) (k : ℕ) (axis : Axis) (keep : Keep) : Type 0 where
  pub own : OwnZone b o k
  pub second : Zone
  pub next : slice_get own.zones (k + 1) ≡ Some second
  pub joinable : are_joinable axis keep own.global own.zone second ≡ true
  pub put : zone_joined b o k axis keep ≡ zones_put b o (merged own.zones k (joined axis keep own.zone second))

pub join : (b : Parts) (o : Owner) (k : ℕ) (axis : Axis) (keep : Keep) → can_join b o k axis keep ≡ true
    → Join b o k axis keep
join b (owner.Preset p) k axis keep h =
    let s = join_there axis keep b.presets p k h in
    let put = ap (with_presets b) (join_is_put b.presets p k s.at axis keep s.second s.next) in
    let own = own_zone b (owner.Preset p) k s.at (rw s.at.there refl) (zones_there b.presets p k s.at) in
    record { own = own; second = s.second; next = s.next; joinable = s.joinable; put = put }
join b (owner.Inst i) k axis keep h =
    let s = join_there axis keep b.instruments i k h in
    let put = ap (with_instruments b) (join_is_put b.instruments i k s.at axis keep s.second s.next) in
    let own = own_zone b (owner.Inst i) k s.at (rw s.at.there refl) (zones_there b.instruments i k s.at) in
    record { own = own; second = s.second; next = s.next; joinable = s.joinable; put = put }

-- ---- records

module _ (measure : Zone → ℕ) (zones : List Zone) (k : ℕ) (z : Zone) (at : slice_get zones k ≡ Some z) where
  sum_split : (lower upper : Zone)
      → sum_by measure (split_in_two zones k lower upper) + measure z
      ≡ sum_by measure zones + measure lower + measure upper
  sum_split lower upper =
      let is = ap (sum_by measure) (halves_at zones k lower upper (slice_get-within zones k z at)) in
      let sum = sum_by-insert measure (slice_set zones k lower) (k + 1) upper in
      let set = sum-exchanged measure zones k z lower at in
      omega (arith, is, sum, set)

  sum_merged : (second one : Zone) → slice_get zones (k + 1) ≡ Some second
      → sum_by measure (merged zones k one) + measure z + measure second ≡ sum_by measure zones + measure one
  sum_merged second one next =
      let left : slice_get (remove zones (k + 1)) k ≡ Some z = rw add-one (left_first zones k z second at next) in
      let set = sum-exchanged measure (remove zones (k + 1)) k z one left in
      let less = sum-removed measure zones (k + 1) second next in
      omega (arith, set, less)

-- the generators of both halves, if the zone has a range and if it has none
gens_split : (axis : Axis) (z : Zone) (v w : ℕ)
    → (len (with_range axis v z).gens + 1) + (len (with_range axis w z).gens + 1)
    ≡ (len z.gens + 1) + (len z.gens + option_map_or (λ _. 1) (own_range axis z) 3)
gens_split axis z v w =
    (elim (own_range axis z) as (λ o. own_range axis z
    ≡ o → (len (with_range axis v z).gens + 1) + (len (with_range axis w z).gens + 1)
    ≡ (len z.gens + 1) + (len z.gens + option_map_or (λ _. 1) o 3)) [
      | None ↦ λ e.
          let one = len-insert_absent z.gens (range_operator axis) v e in
          let two = len-insert_absent z.gens (range_operator axis) w e in
          omega (arith, one, two)
      | Some u ↦ λ e.
          let own : IsSome (own_range axis z) = rw e refl in
          let one = len-insert_present z.gens (range_operator axis) v own in
          let two = len-insert_present z.gens (range_operator axis) w own in
          omega (arith, one, two)
    ]) refl

pub records-split_in_two : (axis : Axis) (m : ℕ) (global : GlobalZone) (zones : List Zone) (k : ℕ) (z : Zone)
    → slice_get zones k ≡ Some z
    → records_of_zones (split_in_two zones k (lower_zone axis m global z) (upper_zone axis m global z))
    ≡ records_sum (records_of_zones zones) (split_records axis z)
records-split_in_two axis m global zones k z at =
    let lower = lower_zone axis m global z in
    let upper = upper_zone axis m global z in
    let one = sum_split (λ (z : Zone). 1) zones k z at lower upper in
    let gens = sum_split (λ (z : Zone). len z.gens + 1) zones k z at lower upper in
    let both =
    gens_split axis z (range_from (low_end (range_of axis global z)) (m - 1))
    (range_from m (high_end (range_of axis global z))) in
    let mods = sum_split (λ (z : Zone). length z.mods) zones k z at lower upper in
    let zones_are : (records_of_zones (split_in_two zones k lower upper)).zones ≡ (records_of_zones zones).zones + 1 =
    omega (arith, one) in
    let gens_are : (records_of_zones (split_in_two zones k lower upper)).gens
    ≡ (records_of_zones zones).gens + (len z.gens + option_map_or (λ _. 1) (own_range axis z) 3) =
    omega (arith, gens, both) in
    let mods_are : (records_of_zones (split_in_two zones k lower upper)).mods
    ≡ (records_of_zones zones).mods + length z.mods =
    omega (arith, mods) in
    λ i. record { zones = zones_are i; gens = gens_are i; mods = mods_are i }

module _ (axis : Axis) (global : GlobalZone) (zones : List Zone) (k : ℕ) (y z : Zone)
    (at : slice_get zones k ≡ Some y) (next : slice_get zones (k + 1) ≡ Some z) where
  gens_joined : (keep : Keep) → are_joinable axis keep global y z ≡ true
      → len (joined axis keep y z).gens + (join_records keep z).gens ≡ len y.gens + (len z.gens + 1)
  gens_joined keeping.Keep h =
      let j = joined_at axis keeping.Keep global y z h in
      let own : IsSome (own_range axis y) = rw j.own_first refl in
      let same =
      len-insert_present y.gens (range_operator axis) (joint_range (own_amount axis y) (own_amount axis z)) own
      in
      omega (arith, same)
  gens_joined keeping.Bare h =
      let j = joined_at axis keeping.Bare global y z h in
      let own : IsSome (own_range axis y) = rw j.own_first refl in
      let less = len-remove_present y.gens (range_operator axis) own in
      omega (arith, less)

  mods_joined : (keep : Keep) → (joined axis keep y z).mods ≡ y.mods
  mods_joined keeping.Keep = refl
  mods_joined keeping.Bare = refl

  mods_of_join : (keep : Keep) → (join_records keep z).mods ≡ length z.mods
  mods_of_join keeping.Keep = refl
  mods_of_join keeping.Bare = refl

  zones_of_join : (keep : Keep) → (join_records keep z).zones ≡ 1
  zones_of_join keeping.Keep = refl
  zones_of_join keeping.Bare = refl

  pub records-merged : (keep : Keep) → are_joinable axis keep global y z ≡ true
      → records_of_zones zones
      ≡ records_sum (records_of_zones (merged zones k (joined axis keep y z))) (join_records keep z)
  records-merged keep h =
      let one = joined axis keep y z in
      let sum = sum_merged (λ (z : Zone). 1) zones k y at z one next in
      let gens = sum_merged (λ (z : Zone). len z.gens + 1) zones k y at z one next in
      let mods = sum_merged (λ (z : Zone). length z.mods) zones k y at z one next in
      let kept = gens_joined keep h in
      let same = ap length (mods_joined keep) in
      let count = zones_of_join keep in
      let few = mods_of_join keep in
      let zones_are : (records_of_zones zones).zones
      ≡ (records_of_zones (merged zones k one)).zones + (join_records keep z).zones =
      omega (arith, sum, count) in
      let gens_are : (records_of_zones zones).gens
      ≡ (records_of_zones (merged zones k one)).gens + (join_records keep z).gens =
      omega (arith, gens, kept) in
      let mods_are : (records_of_zones zones).mods
      ≡ (records_of_zones (merged zones k one)).mods + (join_records keep z).mods =
      omega (arith, mods, same, few) in
      λ i. record { zones = zones_are i; gens = gens_are i; mods = mods_are i }

-- ---- a split

module _ (b : Parts) (o : Owner) (k : ℕ) (axis : Axis) (m : ℕ) (can : can_split b o k axis m ≡ true) where
  pub split_zone_is : zone_of b o k ≡ Some (split b o k axis m can).own.zone
  split_zone_is = let own = (split b o k axis m can).own in zone_is b o k own.zones own.zone own.there own.at

  pub totals-zone_split : totals_of (zone_split b o k axis m)
      ≡ with_records (level_of o) (totals_of b) (split_records axis (split b o k axis m can).own.zone)
  totals-zone_split =
      let s = split b o k axis m can in
      let own = s.own in
      ap totals_of s.put
      ∙ totals_zones_more b o own.zones
      (split_in_two own.zones k (lower_zone axis m own.global own.zone) (upper_zone axis m own.global own.zone)) own.there
      (split_records axis own.zone)
      (records-split_in_two axis m own.global own.zones k own.zone own.at)

  pub sound_zone_split : IsSound b → broken_limit (zone_split b o k axis m) ≡ None → IsSound (zone_split b o k axis m)
  sound_zone_split sound e =
      let s = split b o k axis m can in
      let own = s.own in
      let valid = zones_valid b o own.zones sound own.there in
      let fit = zones_fit b o own.zones sound own.there in
      let v = all_at (IsZone (level_of o) (target_count b o)) own.zones k own.zone own.at valid in
      let f = all_at FitsZone own.zones k own.zone own.at fit in
      let shared = gens_of_sound b o place.Global own.global sound own.global_there in
      let r = range_holds (level_of o) axis own.global own.zone shared v.gens in
      let inside = split_at axis m own.global own.zone s.inside in
      let low = lower_is_range axis m own.global own.zone inside r in
      let high = upper_is_range axis m own.global own.zone inside r in
      let lower = lower_zone axis m own.global own.zone in
      let upper = upper_zone axis m own.global own.zone in
      rw s.put
      (sound_zones_put b o (split_in_two own.zones k lower upper) sound
      (all_split (IsZone (level_of o) (target_count b o)) own.zones k lower upper (valid_with (level_of o)
      (target_count b o) axis own.zone v (range_from (low_end (range_of axis own.global own.zone)) (m - 1)) low)
      (valid_with (level_of o) (target_count b o) axis own.zone v
      (range_from m (high_end (range_of axis own.global own.zone))) high) valid)
      (all_split FitsZone own.zones k lower upper
      (fits_with axis own.zone f (range_from (low_end (range_of axis own.global own.zone)) (m - 1)) low)
      (fits_with axis own.zone f (range_from m (high_end (range_of axis own.global own.zone))) high) fit)
      (rw s.put at e))

-- ---- a join

module _ (b : Parts) (o : Owner) (k : ℕ) (axis : Axis) (keep : Keep) (can : can_join b o k axis keep ≡ true) where
  pub next_zone_is : zone_of b o (k + 1) ≡ Some (join b o k axis keep can).second
  next_zone_is = let s = join b o k axis keep can in zone_is b o (k + 1) s.own.zones s.second s.own.there s.next

  pub next_is_there : IsSomeAnd (owner_zone_count b o) (λ count. k + 1 < count)
  next_is_there =
      let s = join b o k axis keep can in
      own_count b o s.own.zones (λ count. k + 1 < count) s.own.there
      (slice_get-within s.own.zones (k + 1) s.second s.next)

  pub totals-zone_joined : with_records (level_of o) (totals_of (zone_joined b o k axis keep))
      (join_records keep (join b o k axis keep can).second)
      ≡ totals_of b
  totals-zone_joined =
      let s = join b o k axis keep can in
      let own = s.own in
      ap (λ (now : Parts). with_records (level_of o) (totals_of now) (join_records keep s.second)) s.put
      ∙ totals_zones_less b o own.zones (merged own.zones k (joined axis keep own.zone s.second)) own.there
      (join_records keep s.second)
      (records-merged axis own.global own.zones k own.zone s.second own.at s.next keep s.joinable)

  pub sound_zone_joined : IsSound b → IsSound (zone_joined b o k axis keep)
  sound_zone_joined sound =
      let s = join b o k axis keep can in
      let own = s.own in
      let valid = zones_valid b o own.zones sound own.there in
      let fit = zones_fit b o own.zones sound own.there in
      let v = all_at (IsZone (level_of o) (target_count b o)) own.zones k own.zone own.at valid in
      let w = all_at (IsZone (level_of o) (target_count b o)) own.zones (k + 1) s.second s.next valid in
      let f = all_at FitsZone own.zones k own.zone own.at fit in
      let one = joined axis keep own.zone s.second in
      let r =
      joined_range axis own.global own.zone s.second keep s.joinable
      (own_holds (level_of o) axis own.zone v.gens) (own_holds (level_of o) axis s.second w.gens) in
      let within =
      fewer_records_within (level_of o) (totals_of (zone_joined b o k axis keep)) (join_records keep s.second)
      (ap broken totals-zone_joined ∙ no_limit_of b sound.valid.limits) in
      rw s.put
      (sound_zones_put b o (merged own.zones k one) sound
      (all_merged (IsZone (level_of o) (target_count b o)) own.zones k one
      (valid_joined axis own.global own.zone s.second (level_of o) (target_count b o) keep v r) valid)
      (all_merged FitsZone own.zones k one (fits_joined axis own.global own.zone s.second keep f r) fit)
      (rw s.put at within))
