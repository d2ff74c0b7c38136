-- The raw changes of zones: each keeps a bank sound, and can be undone.
use Rattle.std.proofs.Common.{◌≡◌, ◌+◌, ◌≤◌, ◌<◌, ◌^◌, ℕ, List, length, insert, remove, slice_get, Some, None, refl}
use Rattle.std.proofs.Common.{sym, ap, ◌∙◌}
use Rattle.std.specs.Prelude.{IsSomeAnd}
use Rattle.std.specs.FinMap.{len}
use Rattle.std.proofs.lemmas.List.Sums.{sum_by-insert}
use Rattle.base_numbered_lists.specs.Moved.{changed, moved}
use Rattle.base_numbered_lists.proofs.Lists.{slice_get-found}
use Rattle.bank_parts.specs.declared.parts.Head.{Head}
use Rattle.bank_parts.specs.declared.parts.Zone.{Zone}
use Rattle.bank_parts.specs.declared.parts.ZoneOwner.{ZoneOwner}
use Rattle.bank_parts.specs.declared.parts.Parts.{Parts}
use Rattle.bank_parts.specs.Counts.{records_of_zone, records_sum}
use Rattle.bank_parts.specs.ZoneChanges.{with_target}
use Rattle.bank_parts.specs.Valid.{IsZone}
use Rattle.bank_parts.specs.Fits.{FitsZone}
use Rattle.bank_parts.specs.Sound.{IsSound}
use Rattle.bank_validity.specs.Limits.{totals_of, broken, broken_limit, with_records}
use Rattle.bank_validity.proofs.LimitLaws.{no_limit_of}
use Rattle.bank_parts.proofs.SettingLaws.{source}
use Rattle.bank_parts.proofs.UndoneLaws as list
use Rattle.bank_parts.proofs.UndoneLaws.{Existing}
use Rattle.bank_changes.specs.declared.members.Owner.{Owner}
use Rattle.bank_changes.specs.declared.members.Owner.TheVariants as owner
use Rattle.bank_changes.specs.Members.{owner_zone_count, zones_of, zone_of, target_of, level_of, target_count}
use Rattle.bank_changes.specs.Zones.{zone_added, zone_removed, zone_moved, target_set}
use Rattle.bank_changes.proofs.Changes.{all_changed, sum-changed, sum-removed}
use Rattle.bank_changes.proofs.Everywhere.{all_insert, all_remove}
use Rattle.bank_changes.proofs.Moves.{all_moved, sum-moved}
use Rattle.bank_changes.proofs.TotalsLaws.{fewer_records_within}
use Rattle.bank_changes.proofs.ZoneLaws.{zones_put, zones_put_is, sound_zones_put, zones_valid, zones_fit}
use Rattle.bank_changes.proofs.ZoneLaws.{records_of_zones, totals_zones_more, totals_zones_less, totals_zones_same}

-- ---- owners and zones that exist

-- an owner and the number of its zones
pub own_zones_there : (b : Parts) (o : Owner) (P : ℕ → Type 0) → IsSomeAnd (owner_zone_count b o) P
    → Existing (zones_of b o) (λ zones. P (length zones))
own_zones_there b (owner.Preset p) P h = list.zones_there b.presets p P h
own_zones_there b (owner.Inst i) P h = list.zones_there b.instruments i P h

-- the number of the zones of an owner
pub own_count : (b : Parts) (o : Owner) (zones : List Zone) (P : ℕ → Type 0) → zones_of b o ≡ Some zones
    → P (length zones) → IsSomeAnd (owner_zone_count b o) P
own_count b (owner.Preset p) zones P e h =
    let x = source (λ (x : ZoneOwner Head). x.zones) (slice_get b.presets p) zones e in rw (x.there, x.seen) h
own_count b (owner.Inst i) zones P e h =
    let x = source (λ (x : ZoneOwner (List ℕ)). x.zones) (slice_get b.instruments i) zones e in
    rw (x.there, x.seen) h

-- one of the zones of an owner
pub zone_is : (b : Parts) (o : Owner) (k : ℕ) (zones : List Zone) (zone : Zone) → zones_of b o ≡ Some zones
    → slice_get zones k ≡ Some zone → zone_of b o k ≡ Some zone
zone_is b (owner.Preset p) k zones zone there at = list.zone_of_zones b.presets p k ∙ rw there at
zone_is b (owner.Inst i) k zones zone there at = list.zone_of_zones b.instruments i k ∙ rw there at

-- ---- each change replaces the list of zones

module _ (k : ℕ) where
  added_put : (b : Parts) (o : Owner) (zone : Zone) (zones : List Zone) → zones_of b o ≡ Some zones
      → zone_added b o k zone ≡ zones_put b o (insert zones k zone)
  added_put b o zone = zones_put_is b o (λ zs. insert zs k zone)

  removed_put : (b : Parts) (o : Owner) (zones : List Zone) → zones_of b o ≡ Some zones
      → zone_removed b o k ≡ zones_put b o (remove zones k)
  removed_put b o = zones_put_is b o (λ zs. remove zs k)

  moved_put : (b : Parts) (o : Owner) (to : ℕ) (zones : List Zone) → zones_of b o ≡ Some zones
      → zone_moved b o k to ≡ zones_put b o (moved zones k to)
  moved_put b o to = zones_put_is b o (λ zs. moved zs k to)

  target_put : (b : Parts) (o : Owner) (target : ℕ) (zones : List Zone) → zones_of b o ≡ Some zones
      → target_set b o k target ≡ zones_put b o (changed zones k (with_target target))
  target_put b o target = zones_put_is b o (λ zs. changed zs k (with_target target))

-- ---- the records of changed zones

module _ (zones : List Zone) (k : ℕ) where
  records-inserted : (zone : Zone)
      → records_of_zones (insert zones k zone) ≡ records_sum (records_of_zones zones) (records_of_zone zone)
  records-inserted zone = λ i. record {
    zones = sum_by-insert (λ (z : Zone). 1) zones k zone i;
    gens = sum_by-insert (λ (z : Zone). len z.gens + 1) zones k zone i;
    mods = sum_by-insert (λ (z : Zone). length z.mods) zones k zone i;
  }

  records-removed : (zone : Zone) → slice_get zones k ≡ Some zone
      → records_of_zones zones ≡ records_sum (records_of_zones (remove zones k)) (records_of_zone zone)
  records-removed zone e = λ i. record {
    zones = sym (sum-removed (λ (z : Zone). 1) zones k zone e) i;
    gens = sym (sum-removed (λ (z : Zone). len z.gens + 1) zones k zone e) i;
    mods = sym (sum-removed (λ (z : Zone). length z.mods) zones k zone e) i;
  }

  records-moved : (to : ℕ) → k < length zones → records_of_zones (moved zones k to) ≡ records_of_zones zones
  records-moved to lt = λ i. record {
    zones = sum-moved (λ (z : Zone). 1) zones k to lt i;
    gens = sum-moved (λ (z : Zone). len z.gens + 1) zones k to lt i;
    mods = sum-moved (λ (z : Zone). length z.mods) zones k to lt i;
  }

  records-targeted : (target : ℕ) → records_of_zones (changed zones k (with_target target)) ≡ records_of_zones zones
  records-targeted target = λ i. record {
    zones = sum-changed (λ (z : Zone). 1) (with_target target) (λ z. refl) zones k i;
    gens = sum-changed (λ (z : Zone). len z.gens + 1) (with_target target) (λ z. refl) zones k i;
    mods = sum-changed (λ (z : Zone). length z.mods) (with_target target) (λ z. refl) zones k i;
  }

-- ---- adding

module _ (b : Parts) (o : Owner) (k : ℕ) (zone : Zone) (there : IsSomeAnd (owner_zone_count b o) (λ count. k ≤ count))
  where
    pub totals-zone_added : totals_of (zone_added b o k zone)
        ≡ with_records (level_of o) (totals_of b) (records_of_zone zone)
    totals-zone_added =
        let t = own_zones_there b o (λ count. k ≤ count) there in
        ap totals_of (added_put k b o zone t.member t.there)
        ∙ totals_zones_more b o t.member (insert t.member k zone) t.there (records_of_zone zone)
        (records-inserted t.member k zone)

    pub sound_zone_added : IsSound b → IsZone (level_of o) (target_count b o) zone → FitsZone zone
        → broken_limit (zone_added b o k zone) ≡ None → IsSound (zone_added b o k zone)
    sound_zone_added sound is fits e =
        let t = own_zones_there b o (λ count. k ≤ count) there in
        let same = added_put k b o zone t.member t.there in
        rw same
        (sound_zones_put b o (insert t.member k zone) sound (all_insert (IsZone (level_of o) (target_count b o))
        t.member k zone is (zones_valid b o t.member sound t.there))
        (all_insert FitsZone t.member k zone fits (zones_fit b o t.member sound t.there)) (rw same at e))

-- ---- removing

pub zone_there : (b : Parts) (o : Owner) (k : ℕ) (zone : Zone) → zone_of b o k ≡ Some zone
    → Existing (zones_of b o) (λ zones. slice_get zones k ≡ Some zone)
zone_there b (owner.Preset p) k zone e =
    let h = list.zone_in b.presets p k zone e in record { member = h.member; there = h.there; holds = h.gives }
zone_there b (owner.Inst i) k zone e =
    let h = list.zone_in b.instruments i k zone e in record { member = h.member; there = h.there; holds = h.gives }

pub totals-zone_removed : (b : Parts) (o : Owner) (k : ℕ) (zone : Zone) → zone_of b o k ≡ Some zone
    → with_records (level_of o) (totals_of (zone_removed b o k)) (records_of_zone zone) ≡ totals_of b
totals-zone_removed b o k zone e =
    let t = zone_there b o k zone e in
    ap (λ (now : Parts). with_records (level_of o) (totals_of now) (records_of_zone zone))
    (removed_put k b o t.member t.there)
    ∙ totals_zones_less b o t.member (remove t.member k) t.there (records_of_zone zone)
    (records-removed t.member k zone t.holds)

pub zone_found : (b : Parts) (o : Owner) (k : ℕ) → IsSomeAnd (owner_zone_count b o) (λ count. k < count)
    → (zone : Zone) × (zone_of b o k ≡ Some zone)
zone_found b o k h =
    let t = own_zones_there b o (λ count. k < count) h in
    let (zone, e) = slice_get-found t.member k t.holds in
    (zone, zone_is b o k t.member zone t.there e)

pub sound_zone_removed : (b : Parts) (o : Owner) (k : ℕ) → IsSomeAnd (owner_zone_count b o) (λ count. k < count)
    → IsSound b → IsSound (zone_removed b o k)
sound_zone_removed b o k h sound =
    let (zone, e) = zone_found b o k h in
    let t = zone_there b o k zone e in
    let same = removed_put k b o t.member t.there in
    let within =
    fewer_records_within (level_of o) (totals_of (zone_removed b o k)) (records_of_zone zone)
    (ap broken (totals-zone_removed b o k zone e) ∙ no_limit_of b sound.valid.limits) in
    rw same
    (sound_zones_put b o (remove t.member k) sound
    (all_remove (IsZone (level_of o) (target_count b o)) t.member k (zones_valid b o t.member sound t.there))
    (all_remove FitsZone t.member k (zones_fit b o t.member sound t.there)) (rw same at within))

-- ---- moving

module _ (b : Parts) (o : Owner) (from to : ℕ) (there : IsSomeAnd (owner_zone_count b o) (λ count. from < count)) where
  pub totals-zone_moved : totals_of (zone_moved b o from to) ≡ totals_of b
  totals-zone_moved =
      let t = own_zones_there b o (λ count. from < count) there in
      ap totals_of (moved_put from b o to t.member t.there)
      ∙ totals_zones_same b o t.member (moved t.member from to) t.there (records-moved t.member from to t.holds)

  pub sound_zone_moved : IsSound b → IsSound (zone_moved b o from to)
  sound_zone_moved sound =
      let t = own_zones_there b o (λ count. from < count) there in
      let same = moved_put from b o to t.member t.there in
      let within = ap broken totals-zone_moved ∙ no_limit_of b sound.valid.limits in
      rw same
      (sound_zones_put b o (moved t.member from to) sound (all_moved (IsZone (level_of o) (target_count b o))
      t.member from to t.holds (zones_valid b o t.member sound t.there))
      (all_moved FitsZone t.member from to t.holds (zones_fit b o t.member sound t.there)) (rw same at within))

-- ---- another target

module _ (b : Parts) (o : Owner) (k target : ℕ) (there : IsSomeAnd (owner_zone_count b o) (λ count. k < count)) where
  pub totals-target_set : totals_of (target_set b o k target) ≡ totals_of b
  totals-target_set =
      let t = own_zones_there b o (λ count. k < count) there in
      ap totals_of (target_put k b o target t.member t.there)
      ∙ totals_zones_same b o t.member (changed t.member k (with_target target)) t.there
      (records-targeted t.member k target)

  pub sound_target_set : IsSound b → target < target_count b o → target < 2 ^ 16 → IsSound (target_set b o k target)
  sound_target_set sound is fits =
      let t = own_zones_there b o (λ count. k < count) there in
      let same = target_put k b o target t.member t.there in
      let within = ap broken totals-target_set ∙ no_limit_of b sound.valid.limits in
      rw same
      (sound_zones_put b o (changed t.member k (with_target target)) sound
      (all_changed (with_target target) (IsZone (level_of o) (target_count b o))
      (λ (z : Zone) v. record { target = is; gens = v.gens }) t.member k (zones_valid b o t.member sound t.there))
      (all_changed (with_target target) FitsZone
      (λ (z : Zone) v. record { target = fits; gens = v.gens; mods = v.mods }) t.member k
      (zones_fit b o t.member sound t.there)) (rw same at within))

-- ---- undo

abbrev pub with_presets : Parts → List (ZoneOwner Head) → Parts
with_presets b presets = record b { presets = presets }

abbrev pub with_instruments : Parts → List (ZoneOwner (List ℕ)) → Parts
with_instruments b instruments = record b { instruments = instruments }

pub restored_zone_added : (b : Parts) (o : Owner) (k : ℕ) (zone : Zone)
    → IsSomeAnd (owner_zone_count b o) (λ count. k ≤ count) → zone_removed (zone_added b o k zone) o k ≡ b
restored_zone_added b (owner.Preset p) k zone h = ap (with_presets b) (list.zone_added_undone b.presets p k zone h)
restored_zone_added b (owner.Inst i) k zone h =
    ap (with_instruments b) (list.zone_added_undone b.instruments i k zone h)

pub restored_zone_removed : (b : Parts) (o : Owner) (k : ℕ) (zone : Zone) → zone_of b o k ≡ Some zone
    → zone_added (zone_removed b o k) o k zone ≡ b
restored_zone_removed b (owner.Preset p) k zone e = ap (with_presets b) (list.zone_removed_undone b.presets p k zone e)
restored_zone_removed b (owner.Inst i) k zone e =
    ap (with_instruments b) (list.zone_removed_undone b.instruments i k zone e)

pub restored_zone_moved : (b : Parts) (o : Owner) (from to : ℕ)
    → IsSomeAnd (owner_zone_count b o) (λ count. from < count) → IsSomeAnd (owner_zone_count b o) (λ count. to < count)
    → zone_moved (zone_moved b o from to) o to from ≡ b
restored_zone_moved b (owner.Preset p) from to h l =
    ap (with_presets b) (list.zone_moved_undone b.presets p from to h l)
restored_zone_moved b (owner.Inst i) from to h l =
    ap (with_instruments b) (list.zone_moved_undone b.instruments i from to h l)

pub restored_target_set : (b : Parts) (o : Owner) (k was target : ℕ) → target_of b o k ≡ Some was
    → target_set (target_set b o k target) o k was ≡ b
restored_target_set b (owner.Preset p) k was target e =
    ap (with_presets b) (list.target_set_back b.presets p k was target e)
restored_target_set b (owner.Inst i) k was target e =
    ap (with_instruments b) (list.target_set_back b.instruments i k was target e)
