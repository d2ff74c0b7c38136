-- The list of zones of an owner replaced by another: the bank stays sound, and what the totals are then.
use Rattle.std.proofs.Common.{◌≡◌, ◌+◌, ℕ, List, [], ◌∷◌, length, slice_get, Some, None, refl, sym, ap, subst, ◌∙◌}
use Rattle.std.proofs.Common.{arith}
use Rattle.std.specs.Prelude.{sum_by, slice_set}
use Rattle.std.specs.List.{AllByRecursion}
use Rattle.std.specs.FinMap.{len}
use Rattle.std.proofs.lemmas.List.Sums.{sum_by-cons}
use Rattle.base_numbered_lists.proofs.Lists.{changed-found, length-changed}
use Rattle.bank_parts.specs.declared.counting.Records.{Records}
use Rattle.bank_parts.specs.declared.parts.GlobalZone.{GlobalZone}
use Rattle.bank_parts.specs.declared.parts.Head.{Head}
use Rattle.bank_parts.specs.declared.parts.Zone.{Zone}
use Rattle.bank_parts.specs.declared.parts.ZoneOwner.{ZoneOwner}
use Rattle.bank_parts.specs.declared.parts.Parts.{Parts}
use Rattle.bank_parts.specs.Counts.{records_of_zone, records_total, records_sum}
use Rattle.bank_parts.specs.Settings.{zones_at, with_zones, zones_changed}
use Rattle.bank_parts.specs.Valid.{IsZone, owner_total, global_count, zone_count}
use Rattle.bank_parts.specs.Valid.{gen_count, mod_count}
use Rattle.bank_parts.specs.Fits.{FitsZone}
use Rattle.bank_parts.specs.Sound.{IsSound}
use Rattle.bank_validity.specs.Limits.{totals_of, level_totals, plus_records, broken_limit, with_records}
use Rattle.bank_parts.proofs.SettingLaws.{source}
use Rattle.bank_changes.specs.declared.members.Owner.{Owner}
use Rattle.bank_changes.specs.declared.members.Owner.TheVariants as owner
use Rattle.bank_changes.specs.Members.{zones_of, level_of, target_count}
use Rattle.bank_changes.specs.Zones.{owner_zones_changed}
use Rattle.bank_changes.proofs.OwnerLaws.{of_sound, sound_owner_changed}
use Rattle.bank_changes.proofs.Changes.{sum-exchanged}
use Rattle.bank_changes.proofs.TotalsLaws.{same_with_records, with_more_records}

-- ---- a list of owners, of which one gets other zones

module _ {H : Type 0} (owners : List (ZoneOwner H)) (i : ℕ) (zones : List Zone) (e : zones_at owners i ≡ Some zones)
  where
    -- two changes that agree on the zones of the owner
    changed_alike : (f g : List Zone → List Zone) → f zones ≡ g zones
        → zones_changed owners i f ≡ zones_changed owners i g
    changed_alike f g same =
        let h = source (λ (x : ZoneOwner H). x.zones) (slice_get owners i) zones e in
        let x : ZoneOwner H = h.member in
        changed-found owners i (λ (x : ZoneOwner H). with_zones (f x.zones) x) x h.there
        ∙ (ap (λ (zs : List Zone). slice_set owners i (with_zones zs x)) (ap f h.seen ∙ (same ∙ sym (ap g h.seen)))
        ∙ sym (changed-found owners i (λ (x : ZoneOwner H). with_zones (g x.zones) x) x h.there))

-- a count that is the sum of a part for the global zone and a part for the other zones
total_put : {H : Type 0} (shared : GlobalZone → ℕ) (own : List Zone → ℕ) (owners : List (ZoneOwner H)) (i : ℕ)
    (zones put : List Zone)
    → zones_at owners i ≡ Some zones
    → owner_total (λ g zs. shared g + own zs) (zones_changed owners i (λ _. put)) + own zones
    ≡ owner_total (λ g zs. shared g + own zs) owners + own put
total_put {H} shared own owners i zones put e =
    let h = source (λ (x : ZoneOwner H). x.zones) (slice_get owners i) zones e in
    let x : ZoneOwner H = h.member in
    let y : ZoneOwner H = with_zones put x in
    let count : ZoneOwner H → ℕ = λ (x : ZoneOwner H). shared x.global + own x.zones in
    let is : sum_by count (zones_changed owners i (λ _. put)) ≡ sum_by count (slice_set owners i y) =
    ap (sum_by count) (changed-found owners i (with_zones put) x h.there) in
    let sum : sum_by count (slice_set owners i y) + (shared x.global + own x.zones)
    ≡ sum_by count owners + (shared x.global + own put) =
    sum-exchanged count owners i x y h.there in
    let same : own x.zones ≡ own zones = ap own h.seen in
    omega (arith, is, sum, same)

-- ---- the zones of an owner

-- the bank in which the owner has these zones
abbrev pub zones_put : Parts → Owner → List Zone → Parts
zones_put b o zones = owner_zones_changed b o (λ _. zones)

pub zones_put_is : (b : Parts) (o : Owner) (f : List Zone → List Zone) (zones : List Zone)
    → zones_of b o ≡ Some zones → owner_zones_changed b o f ≡ zones_put b o (f zones)
zones_put_is b (owner.Preset p) f zones e =
    ap (λ (presets : List (ZoneOwner Head)). let r : Parts = record b { presets = presets } in r)
    (changed_alike b.presets p zones e f (λ _. f zones) refl)
zones_put_is b (owner.Inst i) f zones e =
    ap (λ (instruments : List (ZoneOwner (List ℕ))). let r : Parts = record b { instruments = instruments } in r)
    (changed_alike b.instruments i zones e f (λ _. f zones) refl)

-- ---- soundness

pub sound_zones_put : (b : Parts) (o : Owner) (zones : List Zone) → IsSound b
    → AllByRecursion (IsZone (level_of o) (target_count b o)) zones → AllByRecursion FitsZone zones
    → broken_limit (zones_put b o zones) ≡ None → IsSound (zones_put b o zones)
sound_zones_put b o zones sound are fit e =
    sound_owner_changed b o (λ _. with_zones zones)
    (λ _ name_of x v. record { name = v.name; zones = record { global = v.zones.global; zones = are } })
    (λ _ IsFit x v. record { head = v.head; global = v.global; zones = fit }) sound e

-- the zones of a sound bank
pub zones_valid : (b : Parts) (o : Owner) (zones : List Zone) → IsSound b → zones_of b o ≡ Some zones
    → AllByRecursion (IsZone (level_of o) (target_count b o)) zones
zones_valid b o zones sound =
    of_sound b o (λ _ owners i. zones_at owners i) (AllByRecursion (IsZone (level_of o) (target_count b o)))
    (λ H name_of IsFit owners i are zones e.
    let x = source (λ (x : ZoneOwner H). x.zones) (slice_get owners i) zones e in
    subst (AllByRecursion (IsZone (level_of o) (target_count b o))) x.seen (are x.member x.there).0.zones.zones)
    sound zones

pub zones_fit : (b : Parts) (o : Owner) (zones : List Zone) → IsSound b → zones_of b o ≡ Some zones
    → AllByRecursion FitsZone zones
zones_fit b o zones sound =
    of_sound b o (λ _ owners i. zones_at owners i) (AllByRecursion FitsZone)
    (λ H name_of IsFit owners i are zones e.
    let x = source (λ (x : ZoneOwner H). x.zones) (slice_get owners i) zones e in
    subst (AllByRecursion FitsZone) x.seen (are x.member x.there).1.zones)
    sound zones

-- ---- totals

-- the records of the zones, without the global zone
abbrev pub records_of_zones : List Zone → Records
records_of_zones = records_total records_of_zone

ones : {X : Type 0} (xs : List X) → sum_by (λ _. 1) xs ≡ length xs
ones [] = refl
ones {X} (x ∷ xs) =
    let rest = ones xs in
    let sum = sum_by-cons (λ (_ : X). 1) x xs in
    omega (arith, rest, sum)

module _ {H : Type 0} (owners : List (ZoneOwner H)) (i : ℕ) (zones put : List Zone)
    (e : zones_at owners i ≡ Some zones) where
  zones_follow : owner_total zone_count (zones_changed owners i (λ _. put)) + (records_of_zones zones).zones
      ≡ owner_total zone_count owners + (records_of_zones put).zones
  zones_follow =
      let sum = total_put global_count (λ (zs : List Zone). length zs) owners i zones put e in
      let was = ones zones in
      let now = ones put in
      omega (arith, sum, was, now)

  gens_follow : owner_total gen_count (zones_changed owners i (λ _. put)) + (records_of_zones zones).gens
      ≡ owner_total gen_count owners + (records_of_zones put).gens
  gens_follow = total_put (λ (g : GlobalZone). len g.gens) (sum_by (λ (z : Zone). len z.gens + 1)) owners i zones put e

  mods_follow : owner_total mod_count (zones_changed owners i (λ _. put)) + (records_of_zones zones).mods
      ≡ owner_total mod_count owners + (records_of_zones put).mods
  mods_follow =
      total_put (λ (g : GlobalZone). length g.mods) (sum_by (λ (z : Zone). length z.mods)) owners i zones put e

  level_follows : plus_records (records_of_zones zones) (level_totals (zones_changed owners i (λ _. put)))
      ≡ plus_records (records_of_zones put) (level_totals owners)
  level_follows =
      λ k.
      record {
        count =
            length-changed owners i (with_zones put) k;
        records =
            record { zones = zones_follow k; gens = gens_follow k; mods = mods_follow k };
      }

pub totals_zones_put : (b : Parts) (o : Owner) (zones put : List Zone) → zones_of b o ≡ Some zones
    → with_records (level_of o) (totals_of (zones_put b o put)) (records_of_zones zones)
    ≡ with_records (level_of o) (totals_of b) (records_of_zones put)
unfolding totals_of
totals_zones_put b (owner.Preset p) zones put e =
    λ k. record (totals_of b) { presets = level_follows b.presets p zones put e k }
totals_zones_put b (owner.Inst i) zones put e =
    λ k. record (totals_of b) { instruments = level_follows b.instruments i zones put e k }

module _ (b : Parts) (o : Owner) (zones put : List Zone) (e : zones_of b o ≡ Some zones) where
  pub totals_zones_more : (r : Records) → records_of_zones put ≡ records_sum (records_of_zones zones) r
      → totals_of (zones_put b o put) ≡ with_records (level_of o) (totals_of b) r
  totals_zones_more r more =
      with_more_records (level_of o) (totals_of b) (totals_of (zones_put b o put)) (records_of_zones zones) r
      (totals_zones_put b o zones put e ∙ ap (with_records (level_of o) (totals_of b)) more)

  pub totals_zones_less : (r : Records) → records_of_zones zones ≡ records_sum (records_of_zones put) r
      → with_records (level_of o) (totals_of (zones_put b o put)) r ≡ totals_of b
  totals_zones_less r less =
      sym
      (with_more_records (level_of o) (totals_of (zones_put b o put)) (totals_of b) (records_of_zones put) r
      (sym (totals_zones_put b o zones put e) ∙ ap (with_records (level_of o) (totals_of (zones_put b o put))) less))

  pub totals_zones_same : records_of_zones put ≡ records_of_zones zones → totals_of (zones_put b o put) ≡ totals_of b
  totals_zones_same same =
      same_with_records (level_of o) (totals_of (zones_put b o put)) (totals_of b) (records_of_zones zones)
      (totals_zones_put b o zones put e ∙ ap (with_records (level_of o) (totals_of b)) same)
