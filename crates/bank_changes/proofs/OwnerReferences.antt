-- The targets of presets, or of instruments, after a renumbering and after its inverse.
use Rattle.std.proofs.Common.{◌≡◌, ◌<◌, ◌+◌, ◌^◌, ◌==◌, ℕ, false, List, map, ap, arith}
use Rattle.std.specs.List.{AllByRecursion, list_any}
use Rattle.std.proofs.lemmas.Bool.Decides.{nat_tests}
use Rattle.base_numbered_lists.specs.declared.renumbering.Renumbering.{Renumbering}
use Rattle.base_numbered_lists.specs.declared.renumbering.Renumbering.TheVariants.{Removal}
use Rattle.base_numbered_lists.specs.Renumbered.{renumbered}
use Rattle.generators.specs.declared.level.Level.{Level}
use Rattle.bank_parts.specs.declared.parts.Zone.{Zone}
use Rattle.bank_parts.specs.declared.parts.ZoneOwner.{ZoneOwner}
use Rattle.bank_parts.specs.Owners.{targets}
use Rattle.bank_parts.specs.Renumbered.{zone_renumbered, owner_renumbered}
use Rattle.bank_parts.specs.Valid.{IsZone, IsOwner}
use Rattle.bank_parts.specs.Fits.{FitsOwner, FitsZone}
use Rattle.bank_changes.proofs.Everywhere.{all_weaker, all_always, all_map, all_sent, all_both, map_kept, map_back}
use Rattle.bank_changes.proofs.Everywhere.{none_passes, passes_none}

-- P holds of the target of each zone
abbrev pub OfTargets : (ℕ → Type 0) → List Zone → Type 0
OfTargets P zones = AllByRecursion (λ (z : Zone). P z.target) zones

-- P holds of every target of the presets, or of the instruments
abbrev pub OfOwners : {H : Type 0} → (ℕ → Type 0) → List (ZoneOwner H) → Type 0
OfOwners P owners = AllByRecursion (λ x. OfTargets P x.zones) owners

pub owners_always : {H : Type 0} (P : ℕ → Type 0) → ((x : ℕ) → P x) → (owners : List (ZoneOwner H)) → OfOwners P owners
owners_always {H} P h =
    all_always (λ (x : ZoneOwner H). OfTargets P x.zones)
    (λ x. all_always (λ (z : Zone). P z.target) (λ z. h z.target) x.zones)

module _ {H : Type 0} (P Q : ℕ → Type 0) where
  pub owners_weaker : ((x : ℕ) → P x → Q x) → (owners : List (ZoneOwner H)) → OfOwners P owners → OfOwners Q owners
  owners_weaker to = all_weaker (λ (x : ZoneOwner H). OfTargets P x.zones) (λ (x : ZoneOwner H). OfTargets Q x.zones)
      (λ x. all_weaker (λ (z : Zone). P z.target) (λ (z : Zone). Q z.target) (λ z. to z.target) x.zones)

  pub owners_both : (owners : List (ZoneOwner H)) → OfOwners P owners → OfOwners Q owners
      → OfOwners (λ x. P x × Q x) owners
  owners_both =
      all_both (λ (x : ZoneOwner H). OfTargets P x.zones) (λ (x : ZoneOwner H). OfTargets Q x.zones)
      (λ (x : ZoneOwner H). OfTargets (λ t. P t × Q t) x.zones)
      (λ x.
      all_both (λ (z : Zone). P z.target) (λ (z : Zone). Q z.target) (λ (z : Zone). P z.target × Q z.target)
      (λ z p q. (p, q)) x.zones)

  -- a property of the renumbered targets
  pub owners_sent : (by : Renumbering) → ((x : ℕ) → P x → Q (renumbered by x)) → (owners : List (ZoneOwner H))
      → OfOwners P owners → OfOwners Q (map (owner_renumbered by) owners)
  owners_sent by to =
      all_sent (λ (x : ZoneOwner H). OfTargets P x.zones) (λ (x : ZoneOwner H). OfTargets Q x.zones)
      (owner_renumbered by)
      (λ x.
      all_sent (λ (z : Zone). P z.target) (λ (z : Zone). Q z.target) (zone_renumbered by) (λ z. to z.target)
      x.zones)

module _ {H : Type 0} (name_of : H → List ℕ) (at : Level) (n : ℕ) where
  pub owners_within : (owners : List (ZoneOwner H)) → AllByRecursion (IsOwner name_of at n) owners
      → OfOwners (λ x. x < n) owners
  owners_within = all_weaker (IsOwner name_of at n) (λ (x : ZoneOwner H). OfTargets (λ t. t < n) x.zones)
      (λ x h. all_weaker (IsZone at n) (λ (z : Zone). z.target < n) (λ z k. k.target) x.zones h.zones.zones)

  -- validity after renumbering
  module _ (P : ℕ → Type 0) (by : Renumbering) (m : ℕ) (to : (x : ℕ) → P x → renumbered by x < m) where
    zones_valid : (zs : List Zone) → AllByRecursion (IsZone at n) zs → OfTargets P zs
        → AllByRecursion (IsZone at m) (map (zone_renumbered by) zs)
    zones_valid =
        all_map (IsZone at n) (λ (z : Zone). P z.target) (IsZone at m) (zone_renumbered by)
        (λ z v h. record { target = to z.target h; gens = v.gens })

    pub owners_valid : (owners : List (ZoneOwner H)) → AllByRecursion (IsOwner name_of at n) owners
        → OfOwners P owners → AllByRecursion (IsOwner name_of at m) (map (owner_renumbered by) owners)
    owners_valid =
        all_map (IsOwner name_of at n) (λ (x : ZoneOwner H). OfTargets P x.zones) (IsOwner name_of at m)
        (owner_renumbered by)
        (λ x v h.
        record {
          name =
              v.name;
          zones = record { global = v.zones.global; zones = zones_valid x.zones v.zones.zones h };
        })

-- ranges of fields
pub owners_fit : {H : Type 0} (IsFit : H → Type 0) (P : ℕ → Type 0) (by : Renumbering)
    → ((x : ℕ) → P x → renumbered by x < 2 ^ 16)
    → (owners : List (ZoneOwner H)) → AllByRecursion (FitsOwner IsFit) owners → OfOwners P owners
    → AllByRecursion (FitsOwner IsFit) (map (owner_renumbered by) owners)
owners_fit {H} IsFit P by to =
    all_map (FitsOwner IsFit) (λ (x : ZoneOwner H). OfTargets P x.zones) (FitsOwner IsFit) (owner_renumbered by)
    (λ x g k. record {
      head = g.head;
      global = g.global;
      zones =
          all_map FitsZone (λ (z : Zone). P z.target) FitsZone (zone_renumbered by)
          (λ z g h. record { target = to z.target h; gens = g.gens; mods = g.mods }) x.zones g.zones k;
    })

-- ---- targets that a renumbering keeps, or restores

zone_same : (f : ℕ → ℕ) (z : Zone) → f z.target ≡ z.target → (let t : Zone = record z { target = f z.target } in t) ≡ z
zone_same f z e = ap (λ (target : ℕ). let t : Zone = record z { target = target } in t) e

pub owners_kept : {H : Type 0} (by : Renumbering) (owners : List (ZoneOwner H))
    → OfOwners (λ x. renumbered by x ≡ x) owners → map (owner_renumbered by) owners ≡ owners
owners_kept {H} by owners h =
    map_kept (owner_renumbered by) owners
    (all_weaker (λ (x : ZoneOwner H). OfTargets (λ t. renumbered by t ≡ t) x.zones)
    (λ (x : ZoneOwner H). owner_renumbered by x ≡ x)
    (λ x k. ap (λ (zones : List Zone). let t : ZoneOwner H = record x { zones = zones } in t)
    (map_kept (zone_renumbered by) x.zones
    (all_weaker (λ (z : Zone). renumbered by z.target ≡ z.target) (λ (z : Zone). zone_renumbered by z ≡ z)
    (λ z. zone_same (renumbered by) z) x.zones k))) owners h)

pub owners_back : {H : Type 0} (by back : Renumbering) (owners : List (ZoneOwner H))
    → OfOwners (λ x. renumbered back (renumbered by x) ≡ x) owners
    → map (owner_renumbered back) (map (owner_renumbered by) owners) ≡ owners
owners_back {H} by back owners h =
    let Returns : ℕ → Type 0 = λ x. renumbered back (renumbered by x) ≡ x in
    map_back (owner_renumbered by) (owner_renumbered back) owners
    (all_weaker (λ (x : ZoneOwner H). OfTargets Returns x.zones)
    (λ (x : ZoneOwner H). owner_renumbered back (owner_renumbered by x) ≡ x)
    (λ x k. ap (λ (zones : List Zone). let t : ZoneOwner H = record x { zones = zones } in t)
    (map_back (zone_renumbered by) (zone_renumbered back) x.zones
    (all_weaker (λ (z : Zone). Returns z.target) (λ (z : Zone). zone_renumbered back (zone_renumbered by z) ≡ z)
    (λ z. zone_same (λ t. renumbered back (renumbered by t)) z) x.zones k))) owners h)

-- removal of the last one renumbers nothing
pub removal_keeps : (i x : ℕ) → x < i + 1 → renumbered (Removal i) x ≡ x
removal_keeps i x h = grind (arith, nat_tests)

-- ---- a number that is not a target

module _ {H : Type 0} (i : ℕ) (owners : List (ZoneOwner H)) where
  pub untargeted : list_any (targets i) owners ≡ false → OfOwners (λ x. (x == i) ≡ false) owners
  untargeted h =
      all_weaker (λ (x : ZoneOwner H). targets i x ≡ false)
      (λ (x : ZoneOwner H). OfTargets (λ t. (t == i) ≡ false) x.zones)
      (λ x. none_passes (λ (z : Zone). z.target == i) x.zones) owners
      (none_passes (targets i) owners h)

  pub not_targeted : OfOwners (λ x. (x == i) ≡ false) owners → list_any (targets i) owners ≡ false
  not_targeted h = passes_none (targets i) owners
      (all_weaker (λ (x : ZoneOwner H). OfTargets (λ t. (t == i) ≡ false) x.zones)
      (λ (x : ZoneOwner H). targets i x ≡ false) (λ x. passes_none (λ (z : Zone). z.target == i) x.zones) owners
      h)
