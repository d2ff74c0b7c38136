-- A change of one place: what it keeps, and the totals after it.
use Rattle.std.proofs.Common.{◌≡◌, false, ◌≤◌, ◌+◌, ℕ, List, length, Option, Some, None, IsSome, refl, ◌∙◌}
use Rattle.std.proofs.Common.{ap, subst, arith}
use Rattle.std.specs.Prelude.{slice_get, sum_by, if◌then◌else◌, ◌==◌}
use Rattle.std.specs.Option.{is_some, option_map_or}
use Rattle.std.specs.FinMap.{len}
use Rattle.std.proofs.lemmas.Bool.Decides.{nat_tests}
use Rattle.base_numbered_lists.specs.Moved.{changed}
use Rattle.base_numbered_lists.proofs.Lists.{slice_get-within, changed-found, length-changed}
use Rattle.generators.specs.declared.level.Level.{Level}
use Rattle.bank_parts.specs.declared.counting.Records.{Records}
use Rattle.bank_parts.specs.Counts.{records_sum}
use Rattle.bank_parts.specs.declared.owners.ZonePlace.{ZonePlace}
use Rattle.bank_parts.specs.declared.owners.ZonePlace.TheVariants as place
use Rattle.bank_parts.specs.declared.parts.Zone.{Zone}
use Rattle.bank_parts.specs.declared.parts.ZoneOwner.{ZoneOwner}
use Rattle.bank_parts.specs.declared.parts.Parts.{Parts}
use Rattle.bank_parts.specs.Owners.{HasPlace}
use Rattle.bank_parts.specs.Settings.{Settings, settings_of_zone, zone_with_settings, settings_in, settings_changed}
use Rattle.bank_parts.specs.Settings.{settings_at, place_changed}
use Rattle.bank_parts.specs.Valid.{IsZone, IsOwner, AreGenerators, zone_count, gen_count, mod_count, owner_total}
use Rattle.bank_parts.specs.Valid.{global_count}
use Rattle.bank_parts.specs.Fits.{FitsGlobal, FitsZone, FitsOwner}
use Rattle.bank_parts.specs.Sound.{IsSound}
use Rattle.bank_validity.specs.Limits.{totals_of, level_totals, plus_records, with_records, broken_limit}
use Rattle.bank_validity.proofs.LimitLaws.{no_limit_of}
use Rattle.bank_parts.proofs.SettingLaws.{source, given}
use Rattle.bank_changes.specs.declared.members.Owner.{Owner}
use Rattle.bank_changes.specs.declared.members.Owner.TheVariants.{Preset, Inst}
use Rattle.bank_changes.specs.declared.members.Place.{Place}
use Rattle.bank_changes.specs.Members.{zone_place, settings_of, level_of, target_count}
use Rattle.bank_changes.specs.Settings.{owner_place_changed, records_of_place, no_records, place_records}
use Rattle.bank_changes.proofs.Changes.{all_changed, all_found, sum-exchanged}
use Rattle.bank_changes.proofs.OwnerLaws.{of_sound, sound_owner_changed}
use Rattle.bank_changes.proofs.TotalsLaws.{AreNoMore, no_more_within, with_more_records}

-- ---- a place that exists

pub place_there : {H : Type 0} (owners : List (ZoneOwner H)) (i : ℕ) (at : ZonePlace)
    → IsSome (settings_at owners i at) → HasPlace owners i at
place_there {H} owners i at
    h = (elim (settings_at owners i at) as (λ o. settings_at owners i at ≡ o → IsSome o → HasPlace owners i at) [
      | None ↦ λ e k. cc
      | Some s ↦ λ e k. found at s e
    ]) refl h
  where
    found : (at : ZonePlace) (s : Settings) → settings_at owners i at ≡ Some s → HasPlace owners i at
    found place.Global s e =
        let x = given (settings_in place.Global) (slice_get owners i) s e in
        slice_get-within owners i x.member x.there
    found (place.Zone k) s e =
        let x = given (settings_in (place.Zone k)) (slice_get owners i) s e in
        let z = source settings_of_zone (slice_get x.member.zones k) s x.gives in
        let there = x.there in
        rw there (slice_get-within x.member.zones k z.member z.there)

-- ---- what holds of the settings of all places, also after a change

module _ (lvl : Level) (targets : ℕ) (f : Settings → Settings)
    (keeps : (s : Settings) → AreGenerators lvl s.gens → AreGenerators lvl (f s).gens) where
  pub owner_stays : {H : Type 0} (name_of : H → List ℕ) (at : ZonePlace) (x : ZoneOwner H)
      → IsOwner name_of lvl targets x → IsOwner name_of lvl targets (settings_changed at f x)
  owner_stays name_of place.Global x is = record {
    name = is.name;
    zones = record { global = keeps x.global is.zones.global; zones = is.zones.zones };
  }
  owner_stays name_of (place.Zone k) x is = record {
    name = is.name;
    zones = record {
      global = is.zones.global;
      zones =
          all_changed (λ (z : Zone). zone_with_settings (f (settings_of_zone z)) z) (IsZone lvl targets)
          (λ z was. record { target = was.target; gens = keeps (settings_of_zone z) was.gens }) x.zones k
          is.zones.zones;
    };
  }

module _ (f : Settings → Settings) (keeps : (s : Settings) → FitsGlobal s → FitsGlobal (f s)) where
  pub owner_fits_still : {H : Type 0} (IsFit : H → Type 0) (at : ZonePlace) (x : ZoneOwner H) → FitsOwner IsFit x
      → FitsOwner IsFit (settings_changed at f x)
  owner_fits_still IsFit place.Global x fits =
      record { head = fits.head; global = keeps x.global fits.global; zones = fits.zones }
  owner_fits_still IsFit (place.Zone k) x fits = record {
    head = fits.head;
    global = fits.global;
    zones = all_changed (λ (z : Zone). zone_with_settings (f (settings_of_zone z)) z) FitsZone (
        λ z was.
        let now = keeps (settings_of_zone z) (record { gens = was.gens; mods = was.mods }) in
        record { target = was.target; gens = now.gens; mods = now.mods }
        ) x.zones k fits.zones;
  }

-- what a change of settings keeps at a level
pub record Keeps (lvl : Level) (f : Settings → Settings) : Type 0 where
  pub valid : (s : Settings) → AreGenerators lvl s.gens → AreGenerators lvl (f s).gens
  pub fits : (s : Settings) → FitsGlobal s → FitsGlobal (f s)

pub sound_place_changed : (b : Parts) (o : Owner) (at : Place) (f : Settings → Settings) → IsSound b
    → Keeps (level_of o) f → broken_limit (owner_place_changed b o at f) ≡ None
    → IsSound (owner_place_changed b o at f)
sound_place_changed b o at f sound keeps within =
    sound_owner_changed b o (λ _. settings_changed (zone_place at) f)
    (λ _ name_of. owner_stays (level_of o) (target_count b o) f keeps.valid name_of (zone_place at))
    (λ _ IsFit. owner_fits_still f keeps.fits IsFit (zone_place at)) sound within

-- the settings of a sound bank

member_gens : {H : Type 0} (name_of : H → List ℕ) (lvl : Level) (targets : ℕ) (at : ZonePlace) (x : ZoneOwner H)
    (s : Settings)
    → settings_in at x ≡ Some s → IsOwner name_of lvl targets x → AreGenerators lvl s.gens
member_gens name_of lvl targets place.Global x s e is =
    let same : x.global ≡ s = cc in subst (λ (s : Settings). AreGenerators lvl s.gens) same is.zones.global
member_gens name_of lvl targets (place.Zone k) x s e is =
    let z = source settings_of_zone (slice_get x.zones k) s e in
    subst (λ (s : Settings). AreGenerators lvl s.gens) z.seen
    (all_found (IsZone lvl targets) x.zones k z.member z.there is.zones.zones).gens

member_fits : {H : Type 0} (IsFit : H → Type 0) (at : ZonePlace) (x : ZoneOwner H) (s : Settings)
    → settings_in at x ≡ Some s → FitsOwner IsFit x → FitsGlobal s
member_fits IsFit place.Global x s e fits = let same : x.global ≡ s = cc in subst FitsGlobal same fits.global
member_fits IsFit (place.Zone k) x s e fits =
    let z = source settings_of_zone (slice_get x.zones k) s e in
    let was = all_found FitsZone x.zones k z.member z.there fits.zones in
    subst FitsGlobal z.seen (record { gens = was.gens; mods = was.mods })

pub gens_of_sound : (b : Parts) (o : Owner) (at : Place) (s : Settings) → IsSound b → settings_of b o at ≡ Some s
    → AreGenerators (level_of o) s.gens
gens_of_sound b o at s sound =
    of_sound b o (λ _ owners i. settings_at owners i (zone_place at))
    (λ (s : Settings). AreGenerators (level_of o) s.gens)
    (λ _ name_of IsFit owners i are s e.
    let x = given (settings_in (zone_place at)) (slice_get owners i) s e in
    member_gens name_of (level_of o) (target_count b o) (zone_place at) x.member s x.gives
    (are x.member x.there).0)
    sound s

pub settings_fit : (b : Parts) (o : Owner) (at : Place) (s : Settings) → IsSound b → settings_of b o at ≡ Some s
    → FitsGlobal s
settings_fit b o at s sound =
    of_sound b o (λ _ owners i. settings_at owners i (zone_place at)) FitsGlobal
    (λ _ name_of IsFit owners i are s e.
    let x = given (settings_in (zone_place at)) (slice_get owners i) s e in
    member_fits IsFit (zone_place at) x.member s x.gives (are x.member x.there).1)
    sound s

-- ---- totals

pub sum-changed_there : {X : Type 0} (measure : X → ℕ) (f : X → X) (xs : List X) (i : ℕ) (x : X)
    → slice_get xs i ≡ Some x → sum_by measure (changed xs i f) + measure x ≡ sum_by measure xs + measure (f x)
sum-changed_there measure f xs i x e =
    ap (λ ys. sum_by measure ys + measure x) (changed-found xs i f x e) ∙ sum-exchanged measure xs i x (f x) e

-- a count that is the sum of a part for the global zone and a part for the other zones
module _ (global_part zone_part : Settings → ℕ) (others : List Zone → ℕ) (f : Settings → Settings)
    (one : (zones : List Zone) (k : ℕ) (z : Zone) → slice_get zones k ≡ Some z
    → others (changed zones k (λ (z : Zone). zone_with_settings (f (settings_of_zone z)) z))
    + zone_part (settings_of_zone z) ≡ others zones + zone_part (f (settings_of_zone z))) where
  abbrev part : ZonePlace → Settings → ℕ
  part place.Global s = global_part s
  part (place.Zone k) s = zone_part s

  abbrev all_of : {H : Type 0} → ZoneOwner H → ℕ
  all_of x = global_part x.global + others x.zones

  member_recount : {H : Type 0} (at : ZonePlace) (x : ZoneOwner H) (s : Settings) → settings_in at x ≡ Some s
      → all_of (settings_changed at f x) + part at s ≡ all_of x + part at (f s)
  member_recount place.Global x s e =
      let same : x.global ≡ s = cc in
      subst
      (λ (s : Settings).
      global_part (f x.global) + others x.zones + global_part s
      ≡ global_part x.global + others x.zones + global_part (f s))
      same (omega arith)
  member_recount (place.Zone k) x s e =
      let z = source settings_of_zone (slice_get x.zones k) s e in
      let more = one x.zones k z.member z.there in
      subst
      (λ (s : Settings). all_of (settings_changed (place.Zone k) f x) + zone_part s ≡ all_of x + zone_part (f s))
      z.seen (omega (arith, more))

  total_recount : {H : Type 0} (owners : List (ZoneOwner H)) (i : ℕ) (at : ZonePlace) (s : Settings)
      → settings_at owners i at ≡ Some s
      → sum_by (λ (x : ZoneOwner H). global_part x.global + others x.zones) (place_changed owners i at f) + part at s
      ≡ sum_by (λ (x : ZoneOwner H). global_part x.global + others x.zones) owners + part at (f s)
  total_recount {H} owners i at s e =
      let x = given (settings_in at) (slice_get owners i) s e in
      let more = member_recount at x.member s x.gives in
      let all =
      sum-changed_there (λ (x : ZoneOwner H). global_part x.global + others x.zones) (settings_changed at f)
      owners i x.member x.there in
      omega (arith, more, all)

module _ (f : Settings → Settings) where
  gens_one : (zones : List Zone) (k : ℕ) (z : Zone) → slice_get zones k ≡ Some z
      → sum_by (λ (z : Zone). len z.gens + 1)
      (changed zones k (λ (z : Zone). zone_with_settings (f (settings_of_zone z)) z))
      + len z.gens
      ≡ sum_by (λ (z : Zone). len z.gens + 1) zones + len (f (settings_of_zone z)).gens
  gens_one zones k z e =
      let all =
      sum-changed_there (λ (z : Zone). len z.gens + 1)
      (λ (z : Zone). zone_with_settings (f (settings_of_zone z)) z) zones k z e in
      omega (arith, all)

  zones_one : (zones : List Zone) (k : ℕ) (z : Zone) → slice_get zones k ≡ Some z
      → length (changed zones k (λ (z : Zone). zone_with_settings (f (settings_of_zone z)) z)) + 0 ≡ length zones + 0
  zones_one zones k z e =
      ap (λ n. n + 0) (length-changed zones k (λ (z : Zone). zone_with_settings (f (settings_of_zone z)) z))

  mods_one : (zones : List Zone) (k : ℕ) (z : Zone) → slice_get zones k ≡ Some z
      → sum_by (λ (z : Zone). length z.mods)
      (changed zones k (λ (z : Zone). zone_with_settings (f (settings_of_zone z)) z))
      + length z.mods
      ≡ sum_by (λ (z : Zone). length z.mods) zones + length (f (settings_of_zone z)).mods
  mods_one zones k z e =
      sum-changed_there (λ (z : Zone). length z.mods) (λ (z : Zone). zone_with_settings (f (settings_of_zone z)) z)
      zones k z e

  module _ {H : Type 0} (owners : List (ZoneOwner H)) (i : ℕ) (s : Settings) where
    zones_recount : (at : ZonePlace) → settings_at owners i at ≡ Some s
        → owner_total zone_count (place_changed owners i at f) + (records_of_place at s).zones
        ≡ owner_total zone_count owners + (records_of_place at (f s)).zones
    zones_recount place.Global e = total_recount global_count (λ s. 0) length f zones_one owners i place.Global s e
    zones_recount (place.Zone k) e = total_recount global_count (λ s. 0) length f zones_one owners i (place.Zone k) s e

    gens_recount : (at : ZonePlace) → settings_at owners i at ≡ Some s
        → owner_total gen_count (place_changed owners i at f) + (records_of_place at s).gens
        ≡ owner_total gen_count owners + (records_of_place at (f s)).gens
    gens_recount place.Global e =
        total_recount (λ (s : Settings). len s.gens) (λ (s : Settings). len s.gens)
        (sum_by (λ (z : Zone). len z.gens + 1)) f gens_one owners i place.Global s e
    gens_recount (place.Zone k) e =
        total_recount (λ (s : Settings). len s.gens) (λ (s : Settings). len s.gens)
        (sum_by (λ (z : Zone). len z.gens + 1)) f gens_one owners i (place.Zone k) s e

    mods_recount : (at : ZonePlace) → settings_at owners i at ≡ Some s
        → owner_total mod_count (place_changed owners i at f) + (records_of_place at s).mods
        ≡ owner_total mod_count owners + (records_of_place at (f s)).mods
    mods_recount place.Global e =
        total_recount (λ (s : Settings). length s.mods) (λ (s : Settings). length s.mods)
        (sum_by (λ (z : Zone). length z.mods)) f mods_one owners i place.Global s e
    mods_recount (place.Zone k) e =
        total_recount (λ (s : Settings). length s.mods) (λ (s : Settings). length s.mods)
        (sum_by (λ (z : Zone). length z.mods)) f mods_one owners i (place.Zone k) s e

    level_recount : (at : ZonePlace) → settings_at owners i at ≡ Some s
        → plus_records (records_of_place at s) (level_totals (place_changed owners i at f))
        ≡ plus_records (records_of_place at (f s)) (level_totals owners)
    level_recount at e = λ k. record {
      count = length-changed owners i (settings_changed at f) k;
      records = record { zones = zones_recount at e k; gens = gens_recount at e k; mods = mods_recount at e k };
    }

pub totals_place_changed : (b : Parts) (o : Owner) (at : Place) (f : Settings → Settings) (s : Settings)
    → settings_of b o at ≡ Some s
    → with_records (level_of o) (totals_of (owner_place_changed b o at f)) (records_of_place (zone_place at) s)
    ≡ with_records (level_of o) (totals_of b) (records_of_place (zone_place at) (f s))
unfolding totals_of
totals_place_changed b (Preset p) at f s e =
    λ k. record (totals_of b) { presets = level_recount f b.presets p s (zone_place at) e k }
totals_place_changed b (Inst i) at f s e =
    λ k. record (totals_of b) { instruments = level_recount f b.instruments i s (zone_place at) e k }

-- ---- the records of a place

pub records_found : (b : Parts) (o : Owner) (at : Place) (s : Settings) → settings_of b o at ≡ Some s
    → place_records b o at ≡ records_of_place (zone_place at) s
records_found b (Preset p) at s e = ap (λ found. option_map_or (records_of_place (zone_place at)) found no_records) e
records_found b (Inst i) at s e =
    ap (λ found. option_map_or (records_of_place (zone_place at)) found no_records) e

-- ---- found or not

pub found_there : {X : Type 0} (o : Option X) → IsSome o → (x : X) × (o ≡ Some x)
found_there None h = cc
found_there (Some x) h = (x, refl)

pub not_some : {X : Type 0} (o : Option X) → is_some o ≡ false → o ≡ None
not_some None h = refl
not_some (Some x) h = cc

-- more records at a place
pub place_grown : (b : Parts) (o : Owner) (at : Place) (f : Settings → Settings) (s : Settings)
    → settings_of b o at ≡ Some s → (more : Records)
    → records_of_place (zone_place at) (f s) ≡ records_sum (records_of_place (zone_place at) s) more
    → totals_of (owner_place_changed b o at f) ≡ with_records (level_of o) (totals_of b) more
place_grown b o at f s there more grown =
    with_more_records (level_of o) (totals_of b) (totals_of (owner_place_changed b o at f))
    (records_of_place (zone_place at) s) more
    (totals_place_changed b o at f s there ∙ ap (with_records (level_of o) (totals_of b)) grown)

-- ---- a change that adds no records

fewer_count : (n m k l : ℕ) → k ≤ n → l ≤ m → (if k + l == 0 then 0 else 1) ≤ (if n + m == 0 then 0 else 1)
fewer_count n m k l h j = grind (arith, nat_tests)

no_more_there : (at : ZonePlace) (s u : Settings) → len u.gens ≤ len s.gens → length u.mods ≤ length s.mods
    → AreNoMore (records_of_place at u) (records_of_place at s)
no_more_there place.Global s u gens mods =
    record {
      zones =
          fewer_count (len s.gens) (length s.mods) (len u.gens) (length u.mods) gens mods;
      gens = gens;
      mods = mods;
    }
no_more_there (place.Zone k) s u gens mods = record { zones = omega arith; gens = gens; mods = mods }

pub within_no_more : (b : Parts) (o : Owner) (at : Place) (f : Settings → Settings) (s : Settings)
    → settings_of b o at ≡ Some s → IsSound b
    → len (f s).gens ≤ len s.gens → length (f s).mods ≤ length s.mods → broken_limit (owner_place_changed b o at f) ≡ None
within_no_more b o at f s e sound gens mods =
    no_more_within (level_of o) (totals_of b) (totals_of (owner_place_changed b o at f))
    (records_of_place (zone_place at) s) (records_of_place (zone_place at) (f s))
    (totals_place_changed b o at f s e) (no_more_there (zone_place at) s (f s) gens mods)
    (no_limit_of b sound.valid.limits)
