-- The forms that edit zones: when each is accepted.
use Rattle.std.proofs.Common.{◌≡◌, ◌<◌, ◌≤◌, ◌^◌, ◌||◌, ℕ, false, nat_le, List, [], ◌∷◌, length, Option, Some, None}
use Rattle.std.proofs.Common.{unwrap_or, refl, ◌∙◌, ap, arith, ◌+◌, Bool, true, not, subst}
use Rattle.std.specs.Prelude.{IsSomeAnd, slice_get}
use Rattle.sf_base.specs.Names.{IsName}
use Rattle.base_numbered_lists.proofs.Lists.{slice_get-found, slice_get-within}
use Rattle.generators.specs.declared.level.Level.{Level}
use Rattle.bank_parts.specs.declared.parts.Zone.{Zone}
use Rattle.bank_parts.specs.declared.parts.ZoneOwner.{ZoneOwner}
use Rattle.bank_parts.specs.declared.parts.Parts.{Parts}
use Rattle.bank_parts.specs.Contents.{sets_bad_generator, sets_bad_range}
use Rattle.bank_parts.specs.Settings.{settings_of_zone}
use Rattle.bank_parts.specs.Valid.{IsZone, IsOwner, owner_total, zone_count, global_count}
use Rattle.bank_parts.specs.Fits.{FitsZone}
use Rattle.bank_parts.specs.Sound.{IsSound}
use Rattle.bank_validity.specs.Limits.{broken, broken_limit}
use Rattle.bank_parts.proofs.Everywhere.{or_none, or_left}
use Rattle.bank_parts.proofs.ContentLaws.{owner_from_tests, tests_from_owner}
use Rattle.bank_validity.proofs.LimitLaws.{no_limit_of}
use Rattle.bank_parts.proofs.SettingLaws.{source}
use Rattle.bank_parts.proofs.UndoneLaws.{zones_there}
use Rattle.bank_changes.specs.declared.members.Owner.{Owner}
use Rattle.bank_changes.specs.declared.members.Owner.TheVariants as owner
use Rattle.bank_changes.specs.Members.{owner_zone_count, level_of, target_count, zones_of}
use Rattle.bank_changes.specs.Zones.{zone_added, zone_removed, zone_moved, target_set, zone_split, zone_joined}
use Rattle.bank_changes.specs.Zones.{can_split, can_join}
use Rattle.bank_changes.proofs.ZoneChangeLaws.{sound_zone_added, sound_zone_removed, sound_zone_moved}
use Rattle.bank_changes.proofs.ZoneChangeLaws.{sound_target_set, totals-zone_moved, totals-target_set, own_count}
use Rattle.edit_forms.specs.declared.zones.ZoneStep.TheVariants.{AddZone, RemoveZone, MoveZone, SetTarget, SplitZone}
use Rattle.edit_forms.specs.declared.zones.ZoneStep.TheVariants.{JoinZone}
use Rattle.edit_forms.specs.declared.step.Step.TheVariants as steps
use Rattle.edit_forms.specs.Causes.{zone_total, no_such_owner}
use Rattle.edit_forms.specs.Steps.{refusal, causes}
use Rattle.edit_refusals.proofs.Accepted.{NoneApplies, accepted, below, not_below, up_to, not_above}
use Rattle.sf_base.specs.declared.limits.TheConstants.{ZONES}
use Rattle.bank_parts.specs.declared.parts.Head.{Head}
use Rattle.bank_zone_ranges.specs.declared.axes.Axis.{Axis}
use Rattle.bank_zone_ranges.specs.declared.axes.Keep.{Keep}
use Rattle.bank_changes.proofs.Changes.{sum-removed}
use Rattle.bank_changes.proofs.SplitLaws.{split, join, next_is_there, sound_zone_split, sound_zone_joined}
use Rattle.edit_forms.specs.declared.zones.ZoneStep.{ZoneStep}
use Rattle.edit_forms.specs.Zones as zones
use Rattle.edit_refusals.proofs.Rises.{rises}

-- ---- owners and their zones

-- the zone count of an existing owner
pub total_there : (b : Parts) (o : Owner) (P : ℕ → Type 0) → (no_such_owner b o).applies ≡ false → P (zone_total b o)
    → IsSomeAnd (owner_zone_count b o) P
total_there b (owner.Preset p) P h k =
    let (x, e) = slice_get-found b.presets p (below (length b.presets) p h) in rw e (rw e at k)
total_there b (owner.Inst i) P h k =
    let (x, e) = slice_get-found b.instruments i (below (length b.instruments) i h) in rw e (rw e at k)

pub total_is : (o : Option ℕ) (P : ℕ → Type 0) → IsSomeAnd o P → P (unwrap_or o 0)
total_is None P h = absurd h
total_is (Some n) P h = h

pub owner_is_there : (b : Parts) (o : Owner) (P : ℕ → Type 0) → IsSomeAnd (owner_zone_count b o) P
    → (no_such_owner b o).applies ≡ false
owner_is_there b (owner.Preset p) P h =
    let t = zones_there b.presets p P h in
    let x = source (λ x. x.zones) (slice_get b.presets p) t.member t.there in
    not_below (length b.presets) p (slice_get-within b.presets p x.member x.there)
owner_is_there b (owner.Inst i) P h =
    let t = zones_there b.instruments i P h in
    let x = source (λ x. x.zones) (slice_get b.instruments i) t.member t.there in
    not_below (length b.instruments) i (slice_get-within b.instruments i x.member x.there)

-- ---- the tests of one zone are those of an owner with only this zone

no_name : IsName []
no_name = (omega arith, tt)

module _ (at : Level) (count : ℕ) (zone : Zone) where
  abbrev alone : ZoneOwner (List ℕ)
  alone = record { head = []; global = settings_of_zone zone; zones = zone ∷ [] }

  pub zone_from_tests : nat_le count zone.target ≡ false → sets_bad_generator at zone.gens ≡ false
      → sets_bad_range zone.gens ≡ false → IsZone at count zone
  zone_from_tests target operators ranges =
      let is : IsOwner (λ name. name) at count alone = owner_from_tests (λ name. name) at count alone no_name (record {
        targets = or_none (nat_le count zone.target) false target refl;
        operators =
            or_none (sets_bad_generator at zone.gens) (sets_bad_generator at zone.gens || false) operators
            (or_none (sets_bad_generator at zone.gens) false operators refl);
        ranges =
            or_none (sets_bad_range zone.gens) (sets_bad_range zone.gens || false) ranges
            (or_none (sets_bad_range zone.gens) false ranges refl);
      }) in
      is.zones.zones.0

  pub record ZonePasses : Type 0 where
    pub target : nat_le count zone.target ≡ false
    pub operators : sets_bad_generator at zone.gens ≡ false
    pub ranges : sets_bad_range zone.gens ≡ false

  pub tests_from_zone : IsZone at count zone → ZonePasses
  tests_from_zone is =
      let t =
      tests_from_owner (λ name. name) at count alone
      (record { name = no_name; zones = record { global = is.gens; zones = (is, tt) } }) in
      record {
        target = or_left (nat_le count zone.target) false t.targets;
        operators = or_left (sets_bad_generator at zone.gens) (sets_bad_generator at zone.gens || false) t.operators;
        ranges = or_left (sets_bad_range zone.gens) (sets_bad_range zone.gens || false) t.ranges;
      }

-- ---- add-zone

module _ (b : Parts) (o : Owner) (at : ℕ) (zone : Zone) where
  pub record AddZoneAllowed : Type 0 where
    pub place : IsSomeAnd (owner_zone_count b o) (λ count. at ≤ count)
    pub is : IsZone (level_of o) (target_count b o) zone

  pub add_zone_allowed : NoneApplies (causes b (steps.Zone o (AddZone at zone))) → AddZoneAllowed
  add_zone_allowed (there, (target, (place, (operators, (ranges, end))))) = record {
    place = total_there b o (λ count. at ≤ count) there (up_to (zone_total b o) at place);
    is = zone_from_tests (level_of o) (target_count b o) zone target operators ranges;
  }

  pub tests_add_zone : AddZoneAllowed → NoneApplies (causes b (steps.Zone o (AddZone at zone)))
  tests_add_zone g =
      let t = tests_from_zone (level_of o) (target_count b o) zone g.is in
      let place = total_is (owner_zone_count b o) (λ count. at ≤ count) g.place in (
        owner_is_there b o (λ count. at ≤ count) g.place,
        (t.target, (not_above (zone_total b o) at place, (t.operators, (t.ranges, tt)))),
      )

  pub sound_add_zone : IsSound b → FitsZone zone → refusal b (steps.Zone o (AddZone at zone)) ≡ None
      → IsSound (zone_added b o at zone)
  sound_add_zone sound fits h =
      let a = accepted b (steps.Zone o (AddZone at zone)) h in
      let g = add_zone_allowed a.tests in
      sound_zone_added b o at zone g.place sound g.is fits a.limits

-- ---- remove-zone

module _ (b : Parts) (o : Owner) (k : ℕ) where
  pub remove_zone_allowed : NoneApplies (causes b (steps.Zone o (RemoveZone k)))
      → IsSomeAnd (owner_zone_count b o) (λ count. k < count)
  remove_zone_allowed (there, (zone, end)) = total_there b o (λ count. k < count) there (below (zone_total b o) k zone)

  pub tests_remove_zone : IsSomeAnd (owner_zone_count b o) (λ count. k < count)
      → NoneApplies (causes b (steps.Zone o (RemoveZone k)))
  tests_remove_zone h = (
    owner_is_there b o (λ count. k < count) h,
    (not_below (zone_total b o) k (total_is (owner_zone_count b o) (λ count. k < count) h), tt),
  )

  pub can_remove_zone : refusal b (steps.Zone o (RemoveZone k)) ≡ None
      → IsSomeAnd (owner_zone_count b o) (λ count. k < count)
  can_remove_zone h = remove_zone_allowed (accepted b (steps.Zone o (RemoveZone k)) h).tests

  pub sound_remove_zone : IsSound b → refusal b (steps.Zone o (RemoveZone k)) ≡ None → IsSound (zone_removed b o k)
  sound_remove_zone sound h = sound_zone_removed b o k (can_remove_zone h) sound

  pub within_remove_zone : IsSound b → NoneApplies (causes b (steps.Zone o (RemoveZone k)))
      → broken_limit (zone_removed b o k) ≡ None
  within_remove_zone sound h =
      no_limit_of (zone_removed b o k) (sound_zone_removed b o k (remove_zone_allowed h) sound).valid.limits

-- ---- move-zone

module _ (b : Parts) (o : Owner) (from to : ℕ) where
  pub record ZoneMoves : Type 0 where
    pub there : IsSomeAnd (owner_zone_count b o) (λ count. from < count)
    pub place : IsSomeAnd (owner_zone_count b o) (λ count. to < count)

  pub zone_moves : NoneApplies (causes b (steps.Zone o (MoveZone from to))) → ZoneMoves
  zone_moves (there, (zone, (place, end))) = record {
    there = total_there b o (λ count. from < count) there (below (zone_total b o) from zone);
    place = total_there b o (λ count. to < count) there (below (zone_total b o) to place);
  }

  pub tests_move_zone : ZoneMoves → NoneApplies (causes b (steps.Zone o (MoveZone from to)))
  tests_move_zone m = (
    owner_is_there b o (λ count. from < count) m.there,
    (
      not_below (zone_total b o) from (total_is (owner_zone_count b o) (λ count. from < count) m.there),
      (not_below (zone_total b o) to (total_is (owner_zone_count b o) (λ count. to < count) m.place), tt),
    ),
  )

  pub moves_of_move_zone : refusal b (steps.Zone o (MoveZone from to)) ≡ None → ZoneMoves
  moves_of_move_zone h = zone_moves (accepted b (steps.Zone o (MoveZone from to)) h).tests

  pub sound_move_zone : IsSound b → refusal b (steps.Zone o (MoveZone from to)) ≡ None
      → IsSound (zone_moved b o from to)
  sound_move_zone sound h = sound_zone_moved b o from to (moves_of_move_zone h).there sound

  pub within_move_zone : IsSound b → NoneApplies (causes b (steps.Zone o (MoveZone from to)))
      → broken_limit (zone_moved b o from to) ≡ None
  within_move_zone sound h =
      ap broken (totals-zone_moved b o from to (zone_moves h).there) ∙ no_limit_of b sound.valid.limits

-- ---- set-target

module _ (b : Parts) (o : Owner) (k target : ℕ) where
  pub record SetTargetAllowed : Type 0 where
    pub there : IsSomeAnd (owner_zone_count b o) (λ count. k < count)
    pub target_is : target < target_count b o

  pub set_target_allowed : NoneApplies (causes b (steps.Zone o (SetTarget k target))) → SetTargetAllowed
  set_target_allowed (there, (names, (zone, end))) = record {
    there = total_there b o (λ count. k < count) there (below (zone_total b o) k zone);
    target_is = below (target_count b o) target names;
  }

  pub tests_set_target : SetTargetAllowed → NoneApplies (causes b (steps.Zone o (SetTarget k target)))
  tests_set_target g = (
    owner_is_there b o (λ count. k < count) g.there,
    (
      not_below (target_count b o) target g.target_is,
      (not_below (zone_total b o) k (total_is (owner_zone_count b o) (λ count. k < count) g.there), tt),
    ),
  )

  pub can_set_target : refusal b (steps.Zone o (SetTarget k target)) ≡ None → SetTargetAllowed
  can_set_target h = set_target_allowed (accepted b (steps.Zone o (SetTarget k target)) h).tests

  pub sound_set_target : IsSound b → target < 2 ^ 16 → refusal b (steps.Zone o (SetTarget k target)) ≡ None
      → IsSound (target_set b o k target)
  sound_set_target sound fits h =
      let g = can_set_target h in sound_target_set b o k target g.there sound g.target_is fits

  pub within_set_target : IsSound b → NoneApplies (causes b (steps.Zone o (SetTarget k target)))
      → broken_limit (target_set b o k target) ≡ None
  within_set_target sound h =
      ap broken (totals-target_set b o k target (set_target_allowed h).there) ∙ no_limit_of b sound.valid.limits

-- ---- zones of a sound bank are few

is_true : (t : Bool) → not t ≡ false → t ≡ true
is_true true h = refl
is_true false h = cc

is_not : (t : Bool) → t ≡ true → not t ≡ false
is_not true h = refl
is_not false h = cc

few_zones : {H : Type 0} (owners : List (ZoneOwner H)) (i : ℕ) (x : ZoneOwner H) → slice_get owners i ≡ Some x
    → owner_total zone_count owners ≤ ZONES → length x.zones < 2 ^ 32
few_zones {H} owners i x e within =
    let sum = sum-removed (λ (x : ZoneOwner H). global_count x.global + length x.zones) owners i x e in
    omega (arith, sum, within)

few_there : (b : Parts) (o : Owner) (zones : List Zone) → IsSound b → zones_of b o ≡ Some zones → length zones < 2 ^ 32
few_there b (owner.Preset p) zones sound e =
    let x = source (λ (x : ZoneOwner Head). x.zones) (slice_get b.presets p) zones e in
    subst (λ (zs : List Zone). length zs < 2 ^ 32) x.seen
    (few_zones b.presets p x.member x.there sound.valid.limits.preset_zones)
few_there b (owner.Inst i) zones sound e =
    let x = source (λ (x : ZoneOwner (List ℕ)). x.zones) (slice_get b.instruments i) zones e in
    subst (λ (zs : List Zone). length zs < 2 ^ 32) x.seen
    (few_zones b.instruments i x.member x.there sound.valid.limits.instrument_zones)

-- ---- split-zone

module _ (b : Parts) (o : Owner) (k : ℕ) (axis : Axis) (m : ℕ) where
  pub can_of_split : NoneApplies (causes b (steps.Zone o (SplitZone k axis m))) → can_split b o k axis m ≡ true
  can_of_split (there, (zone, (inside, end))) = is_true (can_split b o k axis m) inside

  pub tests_split_zone : can_split b o k axis m ≡ true → NoneApplies (causes b (steps.Zone o (SplitZone k axis m)))
  tests_split_zone can =
      let s = split b o k axis m can in
      let zone =
      own_count b o s.own.zones (λ count. k < count) s.own.there
      (slice_get-within s.own.zones k s.own.zone s.own.at) in (
        owner_is_there b o (λ count. k < count) zone,
        (
          not_below (zone_total b o) k (total_is (owner_zone_count b o) (λ count. k < count) zone),
          (is_not (can_split b o k axis m) can, tt),
        ),
      )

  pub can_of_split_zone : refusal b (steps.Zone o (SplitZone k axis m)) ≡ None → can_split b o k axis m ≡ true
  can_of_split_zone h = can_of_split (accepted b (steps.Zone o (SplitZone k axis m)) h).tests

  pub sound_split_zone : IsSound b → refusal b (steps.Zone o (SplitZone k axis m)) ≡ None
      → IsSound (zone_split b o k axis m)
  sound_split_zone sound h =
      let a = accepted b (steps.Zone o (SplitZone k axis m)) h in
      sound_zone_split b o k axis m (can_of_split a.tests) sound a.limits

-- ---- join-zone

module _ (b : Parts) (o : Owner) (k : ℕ) (axis : Axis) (keep : Keep) where
  pub can_of_join : NoneApplies (causes b (steps.Zone o (JoinZone k axis keep))) → can_join b o k axis keep ≡ true
  can_of_join (there, (zone, (joinable, end))) = is_true (can_join b o k axis keep) joinable

  pub tests_join_zone : can_join b o k axis keep ≡ true → NoneApplies (causes b (steps.Zone o (JoinZone k axis keep)))
  tests_join_zone can =
      let s = join b o k axis keep can in
      let next = next_is_there b o k axis keep can in (
        owner_is_there b o (λ count. k + 1 < count) next,
        (
          not_below (zone_total b o) (k + 1) (total_is (owner_zone_count b o) (λ count. k + 1 < count) next),
          (is_not (can_join b o k axis keep) can, tt),
        ),
      )

  pub can_of_join_zone : refusal b (steps.Zone o (JoinZone k axis keep)) ≡ None → can_join b o k axis keep ≡ true
  can_of_join_zone h = can_of_join (accepted b (steps.Zone o (JoinZone k axis keep)) h).tests

  pub sound_join_zone : IsSound b → refusal b (steps.Zone o (JoinZone k axis keep)) ≡ None
      → IsSound (zone_joined b o k axis keep)
  sound_join_zone sound h = sound_zone_joined b o k axis keep (can_of_join_zone h) sound

  pub within_join_zone : IsSound b → NoneApplies (causes b (steps.Zone o (JoinZone k axis keep)))
      → broken_limit (zone_joined b o k axis keep) ≡ None
  within_join_zone sound h =
      no_limit_of (zone_joined b o k axis keep)
      (sound_zone_joined b o k axis keep (can_of_join h) sound).valid.limits

  -- the second zone's number has 32 bits
  pub next_of_join_zone : IsSound b → refusal b (steps.Zone o (JoinZone k axis keep)) ≡ None → k + 1 < 2 ^ 32
  next_of_join_zone sound h =
      let s = join b o k axis keep (can_of_join_zone h) in
      let lt : k + 1 < length s.own.zones = slice_get-within s.own.zones (k + 1) s.second s.next in
      let few : length s.own.zones < 2 ^ 32 = few_there b o s.own.zones sound s.own.there in
      omega (arith, lt, few)

-- ---- the order of their causes

pub zone_rises : (b : Parts) (o : Owner) (s : ZoneStep) → rises 21 (zones.causes b o s) ≡ true
zone_rises b (owner.Preset p) (AddZone at zone) = refl
zone_rises b (owner.Inst i) (AddZone at zone) = refl
zone_rises b o (RemoveZone zone) = refl
zone_rises b o (MoveZone from to) = refl
zone_rises b o (SplitZone zone axis at) = refl
zone_rises b o (JoinZone zone axis kept) = refl
zone_rises b (owner.Preset p) (SetTarget zone target) = refl
zone_rises b (owner.Inst i) (SetTarget zone target) = refl
