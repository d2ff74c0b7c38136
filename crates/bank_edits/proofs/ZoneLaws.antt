-- Undo restores the bank, for the forms that edit the zones of presets and instruments.
use Rattle.std.proofs.Common.{◌≡◌, ◌<◌, ◌≤◌, ℕ, List, length, insert, remove, Option, Some, refl, sym, subst, ap}
use Rattle.std.proofs.Common.{◌∙◌, arith, ◌+◌, ◌^◌, true, unwrap_or}
use Rattle.std.specs.Prelude.{IsSomeAnd, slice_get}
use Rattle.std.specs.Option.{option_map}
use Rattle.std.proofs.lemmas.List.Edits.{length-insert, length-remove}
use Rattle.base_numbered_lists.specs.Moved.{moved, changed}
use Rattle.base_numbered_lists.proofs.Lists.{slice_get-within, length-moved, length-changed, slice_get-changed}
use Rattle.bank_parts.specs.declared.parts.Zone.{Zone}
use Rattle.bank_parts.specs.declared.parts.ZoneOwner.{ZoneOwner}
use Rattle.bank_parts.specs.declared.parts.Parts.{Parts}
use Rattle.bank_parts.specs.Owners.{zone_count_at, zone_at}
use Rattle.bank_parts.specs.Settings.{zones_at, zones_changed, with_zones}
use Rattle.bank_parts.specs.ZoneChanges.{with_target}
use Rattle.bank_parts.specs.Valid.{IsZone}
use Rattle.bank_parts.specs.Fits.{FitsZone}
use Rattle.bank_parts.specs.Sound.{IsSound}
use Rattle.bank_parts.proofs.SettingLaws.{source, zones_read}
use Rattle.bank_parts.proofs.UndoneLaws.{zone_added_read, target_set_read}
use Rattle.bank_changes.specs.declared.members.Owner.{Owner}
use Rattle.bank_changes.specs.declared.members.Owner.TheVariants as owner
use Rattle.bank_changes.specs.Members.{owner_zone_count, zones_of, zone_of, target_of, level_of, target_count}
use Rattle.bank_changes.specs.Zones.{zone_added, zone_removed, zone_moved, target_set, zone_split, zone_joined}
use Rattle.bank_changes.specs.Zones.{can_split, can_join}
use Rattle.bank_changes.proofs.Changes.{all_found}
use Rattle.bank_changes.proofs.ZoneLaws.{zones_valid, zones_fit}
use Rattle.bank_changes.proofs.ZoneChangeLaws.{own_zones_there, zone_there, zone_found, restored_zone_added}
use Rattle.bank_changes.proofs.ZoneChangeLaws.{restored_zone_removed, restored_zone_moved, restored_target_set}
use Rattle.edit_forms.specs.declared.zones.ZoneStep.TheVariants.{AddZone, RemoveZone, MoveZone, SetTarget, SplitZone}
use Rattle.edit_forms.specs.declared.zones.ZoneStep.TheVariants.{JoinZone}
use Rattle.edit_forms.specs.declared.step.Step.TheVariants as steps
use Rattle.edit_refusals.proofs.Accepted.{accepted}
use Rattle.edit_refusals.proofs.ZoneLaws.{add_zone_allowed, tests_add_zone, sound_add_zone, can_remove_zone}
use Rattle.edit_refusals.proofs.ZoneLaws.{tests_remove_zone, sound_remove_zone, moves_of_move_zone, tests_move_zone}
use Rattle.edit_refusals.proofs.ZoneLaws.{sound_move_zone, can_set_target, tests_set_target, sound_set_target}
use Rattle.edit_refusals.proofs.ZoneLaws.{can_of_split_zone, tests_split_zone, sound_split_zone, can_of_join_zone}
use Rattle.edit_refusals.proofs.ZoneLaws.{tests_join_zone, sound_join_zone}
use Rattle.bank_edits.proofs.UndoneBy.{IsAccepted, IsUndone, undone_by}
use Rattle.generators.specs.Ranges.{IsRange}
use Rattle.bank_parts.specs.declared.parts.Head.{Head}
use Rattle.bank_zone_ranges.specs.declared.axes.Axis.{Axis}
use Rattle.bank_zone_ranges.specs.declared.axes.Keep.{Keep}
use Rattle.bank_zone_ranges.specs.Ranges.{low_end, high_end, range_from, range_of, whole_range}
use Rattle.bank_zone_ranges.specs.Splits.{lower_zone, upper_zone, split_in_two}
use Rattle.bank_zone_ranges.specs.Splits.{zones_split, zone_split as split_in, joined}
use Rattle.bank_zone_ranges.specs.Splits.{merged, zones_joined, zone_joined as joined_in}
use Rattle.bank_zone_ranges.specs.Splits.{keep_for, is_splittable_at, is_joinable_at}
use Rattle.bank_zone_ranges.specs.Undone.{own_low, own_amount}
use Rattle.bank_zone_ranges.proofs.SplitLists.{first_split, second_split, first_merged, all_at}
use Rattle.bank_zone_ranges.proofs.SplitLaws.{low_of_range, low_is_small, own_with, split_is_joinable, split_undone}
use Rattle.bank_zone_ranges.proofs.SplitLaws.{join_is_splittable, join_undone, keep_of_joined}
use Rattle.bank_zone_ranges.proofs.Existing.{ZoneThere, zone_is, zone_within, SplitThere, split_there, there_split}
use Rattle.bank_zone_ranges.proofs.Existing.{JoinThere, join_there, there_joined, zones_there}
use Rattle.bank_zone_ranges.proofs.PartLaws.{own_holds}
use Rattle.edit_forms.specs.declared.zones.ZoneStep.{ZoneStep}
use Rattle.edit_forms.specs.Steps.{inverse}

-- ---- the inverse step, built from what the bank returns

pub inverse_of_set_target : (b : Parts) (o : Owner) (k target was : ℕ) → target_of b o k ≡ Some was
    → steps.Zone o (SetTarget k was) ≡ inverse b (steps.Zone o (SetTarget k target))
inverse_of_set_target b o k target was e = rw e refl

-- ---- what exists after a change

some_same : {X : Type 0} (o : Option X) (x y : X) → o ≡ Some x → o ≡ Some y → x ≡ y
some_same o x y e h = cc

-- the number of zones of owner i after f changes its zones
counted_at : {H : Type 0} (owners : List (ZoneOwner H)) (i : ℕ) (f : List Zone → List Zone) (zones : List Zone)
    (P : ℕ → Type 0)
    → zones_at owners i ≡ Some zones → P (length (f zones))
    → IsSomeAnd (zone_count_at (zones_changed owners i f) i) P
counted_at {H} owners i f zones P e h =
    let now = zones_read owners i f ∙ ap (option_map f) e in
    let x = source (λ (x : ZoneOwner H). x.zones) (slice_get (zones_changed owners i f) i) (f zones) now in
    subst (λ (o : Option (ZoneOwner H)). IsSomeAnd (option_map (λ (x : ZoneOwner H). length x.zones) o) P)
    (sym x.there) (subst (λ (zs : List Zone). P (length zs)) (sym x.seen) h)

module _ (zones : List Zone) (k : ℕ) (P : ℕ → Type 0) where
  counted_added : (b : Parts) (o : Owner) (zone : Zone) → zones_of b o ≡ Some zones
      → P (length (insert zones k zone)) → IsSomeAnd (owner_zone_count (zone_added b o k zone) o) P
  counted_added b (owner.Preset p) zone e h = counted_at b.presets p (λ zs. insert zs k zone) zones P e h
  counted_added b (owner.Inst i) zone e h = counted_at b.instruments i (λ zs. insert zs k zone) zones P e h

  counted_removed : (b : Parts) (o : Owner) → zones_of b o ≡ Some zones → P (length (remove zones k))
      → IsSomeAnd (owner_zone_count (zone_removed b o k) o) P
  counted_removed b (owner.Preset p) e h = counted_at b.presets p (λ zs. remove zs k) zones P e h
  counted_removed b (owner.Inst i) e h = counted_at b.instruments i (λ zs. remove zs k) zones P e h

  counted_moved : (b : Parts) (o : Owner) (to : ℕ) → zones_of b o ≡ Some zones → P (length (moved zones k to))
      → IsSomeAnd (owner_zone_count (zone_moved b o k to) o) P
  counted_moved b (owner.Preset p) to e h = counted_at b.presets p (λ zs. moved zs k to) zones P e h
  counted_moved b (owner.Inst i) to e h = counted_at b.instruments i (λ zs. moved zs k to) zones P e h

  counted_target : (b : Parts) (o : Owner) (target : ℕ) → zones_of b o ≡ Some zones
      → P (length (changed zones k (with_target target))) → IsSomeAnd (owner_zone_count (target_set b o k target) o) P
  counted_target b (owner.Preset p) target e h =
      counted_at b.presets p (λ zs. changed zs k (with_target target)) zones P e h
  counted_target b (owner.Inst i) target e h =
      counted_at b.instruments i (λ zs. changed zs k (with_target target)) zones P e h

-- the number of possible targets does not change
targets_stay-removed : (b : Parts) (o : Owner) (k : ℕ) → target_count (zone_removed b o k) o ≡ target_count b o
targets_stay-removed b (owner.Preset p) k = refl
targets_stay-removed b (owner.Inst i) k = refl

targets_stay-set : (b : Parts) (o : Owner) (k target : ℕ) → target_count (target_set b o k target) o ≡ target_count b o
targets_stay-set b (owner.Preset p) k target = refl
targets_stay-set b (owner.Inst i) k target = refl

-- what is read after a change

read_added : (b : Parts) (o : Owner) (k : ℕ) (zone : Zone) → IsSomeAnd (owner_zone_count b o) (λ count. k ≤ count)
    → zone_of (zone_added b o k zone) o k ≡ Some zone
read_added b (owner.Preset p) k zone h = zone_added_read b.presets p k zone h
read_added b (owner.Inst i) k zone h = zone_added_read b.instruments i k zone h

read_target : (b : Parts) (o : Owner) (k target : ℕ) → IsSomeAnd (owner_zone_count b o) (λ count. k < count)
    → target_of (target_set b o k target) o k ≡ Some target
read_target b (owner.Preset p) k target h = target_set_read b.presets p k target h
read_target b (owner.Inst i) k target h = target_set_read b.instruments i k target h

target_of_zone : (b : Parts) (o : Owner) (k : ℕ) (zone : Zone) → zone_of b o k ≡ Some zone
    → target_of b o k ≡ Some zone.target
target_of_zone b (owner.Preset p) k zone e = ap (option_map (λ (z : Zone). z.target)) e
target_of_zone b (owner.Inst i) k zone e = ap (option_map (λ (z : Zone). z.target)) e

-- ---- add-zone

pub undone_add_zone : (b : Parts) (o : Owner) (k : ℕ) (zone : Zone) → IsSound b
    → IsAccepted b (steps.Zone o (AddZone k zone)) → IsUndone b (steps.Zone o (AddZone k zone))
undone_add_zone b o k zone s t =
    let place = (add_zone_allowed b o k zone (accepted b (steps.Zone o (AddZone k zone)) t.accepted).tests).place in
    let h = own_zones_there b o (λ count. k ≤ count) place in
    let le = h.holds in
    let size = length-insert h.member k zone le in
    let now = read_added b o k zone place in
    undone_by b (steps.Zone o (AddZone k zone)) (steps.Zone o (RemoveZone k)) s (record {
      is = refl;
      sound = sound_add_zone b o k zone s t.fits.1.1 t.accepted;
      fits = (t.fits.0, t.fits.1.0);
      tests =
          tests_remove_zone (zone_added b o k zone) o k
          (counted_added h.member k (λ count. k < count) b o zone h.there (omega (arith, size, le)));
      restored = restored_zone_added b o k zone place;
      redone = rw now refl;
    })

-- ---- remove-zone

pub undone_remove_zone : (b : Parts) (o : Owner) (k : ℕ) → IsSound b → IsAccepted b (steps.Zone o (RemoveZone k))
    → IsUndone b (steps.Zone o (RemoveZone k))
undone_remove_zone b o k s t =
    let (zone, e) = zone_found b o k (can_remove_zone b o k t.accepted) in
    let h = zone_there b o k zone e in
    let lt : k < length h.member = slice_get-within h.member k zone h.holds in
    let less = length-remove h.member k lt in
    let is =
    all_found (IsZone (level_of o) (target_count b o)) h.member k zone h.holds
    (zones_valid b o h.member s h.there) in
    undone_by b (steps.Zone o (RemoveZone k)) (steps.Zone o (AddZone k zone)) s (record {
      is = rw e refl;
      sound = sound_remove_zone b o k s t.accepted;
      fits = (t.fits.0, (t.fits.1, all_found FitsZone h.member k zone h.holds (zones_fit b o h.member s h.there)));
      tests = tests_add_zone (zone_removed b o k) o k zone (record {
        place = counted_removed h.member k (λ count. k ≤ count) b o h.there (omega (arith, less, lt));
        is = subst (λ n. IsZone (level_of o) n zone) (sym (targets_stay-removed b o k)) is;
      });
      restored = restored_zone_removed b o k zone e;
      redone = refl;
    })

-- ---- move-zone

pub undone_move_zone : (b : Parts) (o : Owner) (from to : ℕ) → IsSound b
    → IsAccepted b (steps.Zone o (MoveZone from to)) → IsUndone b (steps.Zone o (MoveZone from to))
undone_move_zone b o from to s t =
    let m = moves_of_move_zone b o from to t.accepted in
    let h = own_zones_there b o (λ count. from < count) m.there in
    let k = own_zones_there b o (λ count. to < count) m.place in
    let lt = h.holds in
    let lu : to < length h.member = rw (some_same (zones_of b o) k.member h.member k.there h.there) at k.holds in
    let size = length-moved h.member from to lt lu in
    undone_by b (steps.Zone o (MoveZone from to)) (steps.Zone o (MoveZone to from)) s (record {
      is = refl;
      sound = sound_move_zone b o from to s t.accepted;
      fits = (t.fits.0, (t.fits.1.1, t.fits.1.0));
      tests = tests_move_zone (zone_moved b o from to) o to from (record {
        there = counted_moved h.member from (λ count. to < count) b o to h.there (omega (arith, size, lu));
        place = counted_moved h.member from (λ count. from < count) b o to h.there (omega (arith, size, lt));
      });
      restored = restored_zone_moved b o from to m.there m.place;
      redone = refl;
    })

-- ---- set-target

pub undone_set_target : (b : Parts) (o : Owner) (k target : ℕ) → IsSound b
    → IsAccepted b (steps.Zone o (SetTarget k target)) → IsUndone b (steps.Zone o (SetTarget k target))
undone_set_target b o k target s t =
    let g = can_set_target b o k target t.accepted in
    let (zone, e) = zone_found b o k g.there in
    let h = zone_there b o k zone e in
    let lt : k < length h.member = slice_get-within h.member k zone h.holds in
    let size = length-changed h.member k (with_target target) in
    let is =
    all_found (IsZone (level_of o) (target_count b o)) h.member k zone h.holds
    (zones_valid b o h.member s h.there) in
    let fit = all_found FitsZone h.member k zone h.holds (zones_fit b o h.member s h.there) in
    let was = target_of_zone b o k zone e in
    let now = read_target b o k target g.there in
    undone_by b (steps.Zone o (SetTarget k target)) (steps.Zone o (SetTarget k zone.target)) s (record {
      is = rw was refl;
      sound = sound_set_target b o k target s t.fits.1.1 t.accepted;
      fits = (t.fits.0, (t.fits.1.0, fit.target));
      tests = tests_set_target (target_set b o k target) o k zone.target (record {
        there = counted_target h.member k (λ count. k < count) b o target h.there (omega (arith, size, lt));
        target_is = subst (λ n. zone.target < n) (sym (targets_stay-set b o k target)) is.target;
      });
      restored = restored_target_set b o k zone.target target was;
      redone = rw now refl;
    })

-- ---- zones of a list of members

-- after a split
module _ {H : Type 0} {axis : Axis} {m : ℕ} {owners : List (ZoneOwner H)} {i k : ℕ}
    (s : SplitThere axis m owners i k) where
  abbrev lower : Zone
  lower = lower_zone axis m s.at.member.global s.at.zone

  abbrev upper : Zone
  upper = upper_zone axis m s.at.member.global s.at.zone

  abbrev in_two : ZoneOwner H
  in_two = with_zones (split_in_two s.at.member.zones k lower upper) s.at.member

  split_member : slice_get (split_in owners i k axis m) i ≡ Some in_two
  split_member =
      let x = s.at.member in
      let is : zones_split axis m x.global x.zones k ≡ split_in_two x.zones k lower upper = rw s.at.zone_there refl in
      slice_get-changed owners i (λ (x : ZoneOwner H). with_zones (zones_split axis m x.global x.zones k) x) x
      s.at.there
      ∙ ap (λ (zones : List Zone). Some (with_zones zones x)) is

  abbrev lower_there : ZoneThere (split_in owners i k axis m) i k
  lower_there =
      record {
        member =
            in_two;
        there =
            split_member;
        zone =
            lower;
        zone_there = first_split s.at.member.zones k lower upper (zone_within s.at);
      }

  abbrev upper_there : ZoneThere (split_in owners i k axis m) i (k + 1)
  upper_there =
      record {
        member =
            in_two;
        there =
            split_member;
        zone =
            upper;
        zone_there = second_split s.at.member.zones k lower upper (zone_within s.at);
      }

  joins_after : m < 2 ^ 8 → is_joinable_at axis (keep_for axis s.at.zone) (split_in owners i k axis m) i k ≡ true
  joins_after small =
      there_joined axis (keep_for axis s.at.zone) (split_in owners i k axis m) i k lower_there upper
      upper_there.zone_there
      ∙ split_is_joinable axis m s.at.member.global s.at.zone small s.inside

  split_back : m < 2 ^ 8 → joined_in (split_in owners i k axis m) i k axis (keep_for axis s.at.zone) ≡ owners
  split_back small = split_undone owners i k axis m s.at.member s.at.zone s.at.there s.at.zone_there small s.inside

  upper_begins : m < 2 ^ 8 → own_low axis upper ≡ m
  upper_begins small =
      let high = high_end (range_of axis s.at.member.global s.at.zone) in
      ap (λ o. low_end (unwrap_or o whole_range)) (own_with axis (range_from m high) s.at.zone)
      ∙ low_of_range m high small

-- after a join
module _ {H : Type 0} {axis : Axis} {keep : Keep} {owners : List (ZoneOwner H)} {i k : ℕ}
    (j : JoinThere axis keep owners i k) where
  second_there : zone_at owners i (k + 1) ≡ Some j.second
  second_there = rw j.at.there j.next

  abbrev one : Zone
  one = joined axis keep j.at.zone j.second

  abbrev in_one : ZoneOwner H
  in_one = with_zones (merged j.at.member.zones k one) j.at.member

  joined_member : slice_get (joined_in owners i k axis keep) i ≡ Some in_one
  joined_member =
      let x = j.at.member in
      let is : zones_joined axis keep x.zones k ≡ merged x.zones k one = rw (j.at.zone_there, j.next) refl in
      slice_get-changed owners i (λ (x : ZoneOwner H). with_zones (zones_joined axis keep x.zones k) x) x j.at.there
      ∙ ap (λ (zones : List Zone). Some (with_zones zones x)) is

  abbrev one_there : ZoneThere (joined_in owners i k axis keep) i k
  one_there =
      record {
        member =
            in_one;
        there =
            joined_member;
        zone =
            one;
        zone_there =
            first_merged j.at.member.zones k j.at.zone j.second j.at.zone_there j.next one;
      }

  splits_after : IsRange (own_amount axis j.at.zone) → IsRange (own_amount axis j.second)
      → is_splittable_at axis (own_low axis j.second) (joined_in owners i k axis keep) i k ≡ true
  splits_after first second =
      there_split axis (own_low axis j.second) (joined_in owners i k axis keep) i k one_there
      ∙ join_is_splittable axis keep j.at.member.global j.at.zone j.second j.joinable first second

  join_back : split_in (joined_in owners i k axis keep) i k axis (own_low axis j.second) ≡ owners
  join_back =
      join_undone owners i k axis keep j.at.member j.at.zone j.second j.at.there j.at.zone_there j.next j.joinable

-- ---- zones of an owner

abbrev with_presets : Parts → List (ZoneOwner Head) → Parts
with_presets b presets = record b { presets = presets }

abbrev with_instruments : Parts → List (ZoneOwner (List ℕ)) → Parts
with_instruments b instruments = record b { instruments = instruments }

-- reading after a split
record IsSplit (b : Parts) (o : Owner) (k : ℕ) (axis : Axis) (m : ℕ) : Type 0 where
  zone : Zone
  zone_is : zone_of b o k ≡ Some zone
  can : can_join (zone_split b o k axis m) o k axis (keep_for axis zone) ≡ true
  restored : zone_joined (zone_split b o k axis m) o k axis (keep_for axis zone) ≡ b
  upper : Zone
  second : zone_of (zone_split b o k axis m) o (k + 1) ≡ Some upper
  begins : own_low axis upper ≡ m

is_split : (b : Parts) (o : Owner) (k : ℕ) (axis : Axis) (m : ℕ) → m < 2 ^ 8 → can_split b o k axis m ≡ true
    → IsSplit b o k axis m
is_split b (owner.Preset p) k axis m small can =
    let s = split_there axis m b.presets p k can in
    record {
      zone =
          s.at.zone;
      zone_is =
          zone_is s.at;
      can =
          joins_after s small;
      restored =
          ap (with_presets b) (split_back s small);
      upper =
          upper s;
      second = zone_is (upper_there s);
      begins = upper_begins s small;
    }
is_split b (owner.Inst i) k axis m small can =
    let s = split_there axis m b.instruments i k can in
    record {
      zone =
          s.at.zone;
      zone_is =
          zone_is s.at;
      can =
          joins_after s small;
      restored =
          ap (with_instruments b) (split_back s small);
      upper =
          upper s;
      second = zone_is (upper_there s);
      begins = upper_begins s small;
    }

-- a zone of a sound bank has a range
range_is : (b : Parts) (o : Owner) (zones : List Zone) (axis : Axis) → IsSound b → zones_of b o ≡ Some zones
    → (k : ℕ) (z : Zone) → slice_get zones k ≡ Some z → IsRange (own_amount axis z)
range_is b o zones axis sound there k z at =
    let v = all_at (IsZone (level_of o) (target_count b o)) zones k z at (zones_valid b o zones sound there) in
    own_holds (level_of o) axis z v.gens

-- reading after a join
record IsJoin (b : Parts) (o : Owner) (k : ℕ) (axis : Axis) (keep : Keep) : Type 0 where
  second : Zone
  second_is : zone_of b o (k + 1) ≡ Some second
  can : can_split (zone_joined b o k axis keep) o k axis (own_low axis second) ≡ true
  restored : zone_split (zone_joined b o k axis keep) o k axis (own_low axis second) ≡ b
  one : Zone
  now : zone_of (zone_joined b o k axis keep) o k ≡ Some one
  keeps : keep_for axis one ≡ keep

is_join : (b : Parts) (o : Owner) (k : ℕ) (axis : Axis) (keep : Keep) → IsSound b → can_join b o k axis keep ≡ true
    → IsJoin b o k axis keep
is_join b (owner.Preset p) k axis keep sound can =
    let j = join_there axis keep b.presets p k can in
    let range = range_is b (owner.Preset p) j.at.member.zones axis sound (zones_there b.presets p k j.at) in
    let can = splits_after j (range k j.at.zone j.at.zone_there) (range (k + 1) j.second j.next) in
    record {
      second =
          j.second;
      second_is =
          second_there j;
      can =
          can;
      restored =
          ap (with_presets b) (join_back j);
      one =
          one j;
      now = zone_is (one_there j);
      keeps = keep_of_joined axis keep j.at.zone j.second;
    }
is_join b (owner.Inst i) k axis keep sound can =
    let j = join_there axis keep b.instruments i k can in
    let range = range_is b (owner.Inst i) j.at.member.zones axis sound (zones_there b.instruments i k j.at) in
    let can = splits_after j (range k j.at.zone j.at.zone_there) (range (k + 1) j.second j.next) in
    record {
      second =
          j.second;
      second_is =
          second_there j;
      can =
          can;
      restored =
          ap (with_instruments b) (join_back j);
      one =
          one j;
      now = zone_is (one_there j);
      keeps = keep_of_joined axis keep j.at.zone j.second;
    }

-- ---- split-zone

pub undone_split_zone : (b : Parts) (o : Owner) (k : ℕ) (axis : Axis) (m : ℕ) → IsSound b
    → IsAccepted b (steps.Zone o (SplitZone k axis m)) → IsUndone b (steps.Zone o (SplitZone k axis m))
undone_split_zone b o k axis m s t =
    let f = is_split b o k axis m t.fits.1.1 (can_of_split_zone b o k axis m t.accepted) in
    let was = f.zone_is in
    let now = f.second in
    undone_by b (steps.Zone o (SplitZone k axis m)) (steps.Zone o (JoinZone k axis (keep_for axis f.zone))) s (record {
      is = rw was refl;
      sound = sound_split_zone b o k axis m s t.accepted;
      fits = (t.fits.0, t.fits.1.0);
      tests = tests_join_zone (zone_split b o k axis m) o k axis (keep_for axis f.zone) f.can;
      restored = f.restored;
      redone = rw now (ap (λ m. steps.Zone o (SplitZone k axis m)) f.begins);
    })

-- ---- join-zone

pub undone_join_zone : (b : Parts) (o : Owner) (k : ℕ) (axis : Axis) (keep : Keep) → IsSound b
    → IsAccepted b (steps.Zone o (JoinZone k axis keep)) → IsUndone b (steps.Zone o (JoinZone k axis keep))
undone_join_zone b o k axis keep s t =
    let f = is_join b o k axis keep s (can_of_join_zone b o k axis keep t.accepted) in
    let was = f.second_is in
    let now = f.now in
    undone_by b (steps.Zone o (JoinZone k axis keep)) (steps.Zone o (SplitZone k axis (own_low axis f.second))) s
    (record {
      is = rw was refl;
      sound = sound_join_zone b o k axis keep s t.accepted;
      fits = (t.fits.0, (t.fits.1, low_is_small (own_amount axis f.second)));
      tests = tests_split_zone (zone_joined b o k axis keep) o k axis (own_low axis f.second) f.can;
      restored = f.restored;
      redone = rw now (ap (λ keep. steps.Zone o (JoinZone k axis keep)) f.keeps);
    })

-- ---- all these forms

pub undone_zone : (b : Parts) (o : Owner) (s : ZoneStep) → IsSound b → IsAccepted b (steps.Zone o s)
    → IsUndone b (steps.Zone o s)
undone_zone b o (AddZone at zone) = undone_add_zone b o at zone
undone_zone b o (RemoveZone zone) = undone_remove_zone b o zone
undone_zone b o (MoveZone from to) = undone_move_zone b o from to
undone_zone b o (SplitZone zone axis at) = undone_split_zone b o zone axis at
undone_zone b o (JoinZone zone axis keep) = undone_join_zone b o zone axis keep
undone_zone b o (SetTarget zone target) = undone_set_target b o zone target
