-- The laws of the settings of a place and of the zones of an owner: what is read after a change, undo, a change that
-- changes nothing, and what a change keeps.
use Rattle.std.proofs.Common.{◌≡◌, ◌≢◌, ℕ, zero, suc, List, [], ◌∷◌, Option, Some, None, refl, sym, ap, ◌∙◌}
use Rattle.std.specs.Prelude.{slice_get, slice_set}
use Rattle.std.specs.Option.{option_map, option_and_then}
use Rattle.base_numbered_lists.specs.Moved.{changed}
use Rattle.base_numbered_lists.proofs.Lists.{changed-found, changed-back, slice_get-changed, slice_set_same}
use Rattle.bank_parts.specs.declared.owners.ZonePlace.{ZonePlace}
use Rattle.bank_parts.specs.declared.owners.ZonePlace.TheVariants as place
use Rattle.bank_parts.specs.declared.parts.Zone.{Zone}
use Rattle.bank_parts.specs.declared.parts.ZoneOwner.{ZoneOwner}
use Rattle.bank_parts.specs.Owners.{gens_at, mods_at}
use Rattle.bank_parts.specs.Settings.{Settings, settings_of_zone, zone_with_settings, settings_in, settings_changed}
use Rattle.bank_parts.specs.Settings.{settings_at, with_zones}
use Rattle.bank_parts.specs.PlaceLaws.{PlaceRead, ZonesRead, PlaceReturns, ZonesReturn, PlaceKept, ZonesKept}
use Rattle.bank_parts.specs.PlaceLaws.{OthersStay, OthersKeepZones, PlacesStay, GlobalStays, HeadsStay}
use Rattle.bank_parts.specs.PlaceLaws.{HeadsStayByZones, TargetsStay}

-- ---- options

-- a mapped option that has a value was mapped from a value
pub record Source {X Y : Type 0} (f : X → Y) (o : Option X) (y : Y) : Type 0 where
  pub member : X
  pub there : o ≡ Some member
  pub seen : f member ≡ y

pub source : {X Y : Type 0} (f : X → Y) (o : Option X) (y : Y) → option_map f o ≡ Some y → Source f o y
source f None y e = cc
source f (Some x) y e = record { member = x; there = refl; seen = cc }

-- a chained option that has a value came from a value
pub record Given {X Y : Type 0} (f : X → Option Y) (o : Option X) (y : Y) : Type 0 where
  pub member : X
  pub there : o ≡ Some member
  pub gives : f member ≡ Some y

pub given : {X Y : Type 0} (f : X → Option Y) (o : Option X) (y : Y) → option_and_then f o ≡ Some y → Given f o y
given f None y e = cc
given f (Some x) y e = record { member = x; there = refl; gives = e }

-- two ways to map an option
mapped_alike : {W X Y Z : Type 0} (f : W → X) (g : X → Z) (h : W → Y) (k : Y → Z) → ((w : W) → g (f w) ≡ k (h w))
    → (o : Option W) → option_map g (option_map f o) ≡ option_map k (option_map h o)
mapped_alike f g h k same None = refl
mapped_alike f g h k same (Some w) = ap Some (same w)

given_alike : {W X Y : Type 0} (f : W → X) (g : X → Option Y) (h : W → Option Y) (k : Y → Y)
    → ((w : W) → g (f w) ≡ option_map k (h w)) → (o : Option W)
    → option_and_then g (option_map f o) ≡ option_map k (option_and_then h o)
given_alike f g h k same None = refl
given_alike f g h k same (Some w) = same w

-- ---- a change of one member of a list

pub read_changed : {X : Type 0} (xs : List X) (i : ℕ) (f : X → X)
    → slice_get (changed xs i f) i ≡ option_map f (slice_get xs i)
read_changed xs i f =
    (elim (slice_get xs i) as (λ o. slice_get xs i ≡ o → slice_get (changed xs i f) i ≡ option_map f o) [
      | None ↦ λ e. rw e e
      | Some x ↦ λ e. slice_get-changed xs i f x e
    ]) refl

pub changed_kept : {X : Type 0} (xs : List X) (i : ℕ) (f : X → X) (x : X) → slice_get xs i ≡ Some x → f x ≡ x
    → changed xs i f ≡ xs
changed_kept xs i f x e kept = changed-found xs i f x e ∙ (ap (slice_set xs i) kept ∙ slice_set_same xs i x e)

set_elsewhere : {X : Type 0} (xs : List X) (i j : ℕ) (y : X) → j ≢ i → slice_get (slice_set xs i y) j ≡ slice_get xs j
set_elsewhere [] i j y ne = refl
set_elsewhere (x ∷ xs) zero zero y ne = absurd (ne refl)
set_elsewhere (x ∷ xs) zero (suc j) y ne = refl
set_elsewhere (x ∷ xs) (suc i) zero y ne = refl
set_elsewhere (x ∷ xs) (suc i) (suc j) y ne = set_elsewhere xs i j y (λ e. ne (ap suc e))

pub changed_elsewhere : {X : Type 0} (xs : List X) (i j : ℕ) (f : X → X) → j ≢ i
    → slice_get (changed xs i f) j ≡ slice_get xs j
changed_elsewhere xs i j f ne =
    (elim (slice_get xs i) as (λ o. slice_get xs i ≡ o → slice_get (changed xs i f) j ≡ slice_get xs j) [
      | None ↦ λ e. rw e refl
      | Some x ↦ λ e. ap (λ ys. slice_get ys j) (changed-found xs i f x e) ∙ set_elsewhere xs i j (f x) ne
    ]) refl

-- a change that `see` does not distinguish
set_unseen : {X Y : Type 0} (see : Option X → Y) (xs : List X) (i j : ℕ) (x y : X) → slice_get xs i ≡ Some x
    → see (Some y) ≡ see (Some x) → see (slice_get (slice_set xs i y) j) ≡ see (slice_get xs j)
set_unseen see [] i j x y e same = refl
set_unseen see (z ∷ zs) zero zero x y e same = same ∙ ap see (sym e)
set_unseen see (z ∷ zs) zero (suc j) x y e same = refl
set_unseen see (z ∷ zs) (suc i) zero x y e same = refl
set_unseen see (z ∷ zs) (suc i) (suc j) x y e same = set_unseen see zs i j x y e same

pub changed_unseen : {X Y : Type 0} (see : Option X → Y) (xs : List X) (i j : ℕ) (f : X → X)
    → ((x : X) → see (Some (f x)) ≡ see (Some x)) → see (slice_get (changed xs i f) j) ≡ see (slice_get xs j)
changed_unseen see xs i j f same =
    (elim (slice_get xs i) as (λ o. slice_get xs i ≡ o → see (slice_get (changed xs i f) j) ≡ see (slice_get xs j)) [
      | None ↦ λ e. rw e refl
      | Some x ↦ λ e.
          ap (λ ys. see (slice_get ys j)) (changed-found xs i f x e) ∙ set_unseen see xs i j x (f x) e (same x)
    ]) refl

-- ---- the settings of a place of an owner

module _ {H : Type 0} (x : ZoneOwner H) where
  settings_read : (at : ZonePlace) (f : Settings → Settings)
      → settings_in at (settings_changed at f x) ≡ option_map f (settings_in at x)
  settings_read place.Global f = refl
  settings_read (place.Zone k) f =
      ap (option_map settings_of_zone)
      (read_changed x.zones k (λ (z : Zone). zone_with_settings (f (settings_of_zone z)) z))
      ∙ mapped_alike (λ (z : Zone). zone_with_settings (f (settings_of_zone z)) z) settings_of_zone settings_of_zone
      f (λ z. refl) (slice_get x.zones k)

  settings_back : (at : ZonePlace) (f g : Settings → Settings) (s : Settings) → settings_in at x ≡ Some s
      → g (f s) ≡ s → settings_changed at g (settings_changed at f x) ≡ x
  settings_back place.Global f g s e back =
      let same : x.global ≡ s = cc in
      ap (λ (s : Settings). let r : ZoneOwner H = record x { global = s } in r)
      (ap (λ (s : Settings). g (f s)) same ∙ (back ∙ sym same))
  settings_back (place.Zone k) f g s e back =
      let h = source settings_of_zone (slice_get x.zones k) s e in
      let z : Zone = h.member in
      ap (λ (zones : List Zone). with_zones zones x)
      (changed-back x.zones k (λ (z : Zone). zone_with_settings (f (settings_of_zone z)) z)
      (λ (z : Zone). zone_with_settings (g (settings_of_zone z)) z) z h.there
      (ap (λ (s : Settings). zone_with_settings s z) (ap (λ (s : Settings). g (f s)) h.seen ∙ (back ∙ sym h.seen))))

  settings_kept : (at : ZonePlace) (f : Settings → Settings) (s : Settings) → settings_in at x ≡ Some s → f s ≡ s
      → settings_changed at f x ≡ x
  settings_kept place.Global f s e kept =
      let same : x.global ≡ s = cc in
      ap (λ (s : Settings). let r : ZoneOwner H = record x { global = s } in r) (ap f same ∙ (kept ∙ sym same))
  settings_kept (place.Zone k) f s e kept =
      let h = source settings_of_zone (slice_get x.zones k) s e in
      let z : Zone = h.member in
      ap (λ (zones : List Zone). with_zones zones x)
      (changed_kept x.zones k (λ (z : Zone). zone_with_settings (f (settings_of_zone z)) z) z h.there
      (ap (λ (s : Settings). zone_with_settings s z) (ap f h.seen ∙ (kept ∙ sym h.seen))))

  settings_stay : (at other : ZonePlace) (f : Settings → Settings) → other ≢ at
      → settings_in other (settings_changed at f x) ≡ settings_in other x
  settings_stay place.Global place.Global f ne = absurd (ne refl)
  settings_stay place.Global (place.Zone l) f ne = refl
  settings_stay (place.Zone k) place.Global f ne = refl
  settings_stay (place.Zone k) (place.Zone l) f ne =
      ap (option_map settings_of_zone)
      (changed_elsewhere x.zones k l (λ (z : Zone). zone_with_settings (f (settings_of_zone z)) z)
      (λ e. ne (ap place.Zone e)))

  settings_unseen : {Y : Type 0} (see : Option Zone → Y) (at : ZonePlace) (f : Settings → Settings)
      → ((z : Zone) (s : Settings) → see (Some (zone_with_settings s z)) ≡ see (Some z)) → (k : ℕ)
      → see (slice_get (settings_changed at f x).zones k) ≡ see (slice_get x.zones k)
  settings_unseen see place.Global f same k = refl
  settings_unseen see (place.Zone l) f same k =
      changed_unseen see x.zones l k (λ (z : Zone). zone_with_settings (f (settings_of_zone z)) z)
      (λ z. same z (f (settings_of_zone z)))

  heads_stay : (at : ZonePlace) (f : Settings → Settings) → (settings_changed at f x).head ≡ x.head
  heads_stay place.Global f = refl
  heads_stay (place.Zone k) f = refl

-- ---- the settings of a place

pub place_read : {H : Type 0} → PlaceRead H
place_read {H} owners i at f =
    ap (option_and_then (settings_in at)) (read_changed owners i (settings_changed at f))
    ∙ given_alike (settings_changed at f) (settings_in at) (settings_in at) f
    (λ (x : ZoneOwner H). settings_read x at f) (slice_get owners i)

pub place_returns : {H : Type 0} → PlaceReturns H
place_returns owners i at f g s e back =
    let h = given (settings_in at) (slice_get owners i) s e in
    changed-back owners i (settings_changed at f) (settings_changed at g) h.member h.there
    (settings_back h.member at f g s h.gives back)

pub place_kept : {H : Type 0} → PlaceKept H
place_kept owners i at f s e kept =
    let h = given (settings_in at) (slice_get owners i) s e in
    changed_kept owners i (settings_changed at f) h.member h.there (settings_kept h.member at f s h.gives kept)

pub others_stay : {H : Type 0} → OthersStay H
others_stay owners i j at f ne = changed_elsewhere owners i j (settings_changed at f) ne

pub places_stay : {H : Type 0} → PlacesStay H
places_stay {H} owners i at other f ne =
    changed_unseen (option_and_then (settings_in other)) owners i i (settings_changed at f)
    (λ (x : ZoneOwner H). settings_stay x at other f ne)

pub heads_stay_by_place : {H : Type 0} → HeadsStay H
heads_stay_by_place {H} owners i j at f =
    changed_unseen (option_map (λ (x : ZoneOwner H). x.head)) owners i j (settings_changed at f)
    (λ (x : ZoneOwner H). ap Some (heads_stay x at f))

pub targets_stay : {H : Type 0} → TargetsStay H
targets_stay {H} owners i j k at f =
    changed_unseen
    (λ (o : Option (ZoneOwner H)).
    option_map (λ (z : Zone). z.target) (option_and_then (λ (x : ZoneOwner H). slice_get x.zones k) o))
    owners i j (settings_changed at f)
    (λ (x : ZoneOwner H). settings_unseen x (option_map (λ (z : Zone). z.target)) at f (λ z s. refl) k)

-- ---- the zones of an owner

pub zones_read : {H : Type 0} → ZonesRead H
zones_read {H} owners i f =
    ap (option_map (λ (x : ZoneOwner H). x.zones))
    (read_changed owners i (λ (x : ZoneOwner H). with_zones (f x.zones) x))
    ∙ mapped_alike (λ (x : ZoneOwner H). with_zones (f x.zones) x) (λ (x : ZoneOwner H). x.zones)
    (λ (x : ZoneOwner H). x.zones) f (λ x. refl) (slice_get owners i)

pub zones_return : {H : Type 0} → ZonesReturn H
zones_return {H} owners i f g zones e back =
    let h = source (λ (x : ZoneOwner H). x.zones) (slice_get owners i) zones e in
    let x : ZoneOwner H = h.member in
    changed-back owners i (λ (x : ZoneOwner H). with_zones (f x.zones) x)
    (λ (x : ZoneOwner H). with_zones (g x.zones) x) x h.there
    (ap (λ (zones : List Zone). with_zones zones x)
    (ap (λ (zones : List Zone). g (f zones)) h.seen ∙ (back ∙ sym h.seen)))

pub zones_kept : {H : Type 0} → ZonesKept H
zones_kept {H} owners i f zones e kept =
    let h = source (λ (x : ZoneOwner H). x.zones) (slice_get owners i) zones e in
    let x : ZoneOwner H = h.member in
    changed_kept owners i (λ (x : ZoneOwner H). with_zones (f x.zones) x) x h.there
    (ap (λ (zones : List Zone). with_zones zones x) (ap f h.seen ∙ (kept ∙ sym h.seen)))

pub others_keep_zones : {H : Type 0} → OthersKeepZones H
others_keep_zones {H} owners i j f ne = changed_elsewhere owners i j (λ (x : ZoneOwner H). with_zones (f x.zones) x) ne

pub global_stays : {H : Type 0} → GlobalStays H
global_stays {H} owners i j f =
    changed_unseen (option_and_then (settings_in place.Global)) owners i j
    (λ (x : ZoneOwner H). with_zones (f x.zones) x) (λ x. refl)

pub heads_stay_by_zones : {H : Type 0} → HeadsStayByZones H
heads_stay_by_zones {H} owners i j f =
    changed_unseen (option_map (λ (x : ZoneOwner H). x.head)) owners i j
    (λ (x : ZoneOwner H). with_zones (f x.zones) x) (λ x. refl)

-- ---- the definitions of the getters, through the settings of a place

module _ {H Y : Type 0} (of_zone : Zone → Y) (of_global : Settings → Y)
    (alike : (z : Zone) → of_zone z ≡ of_global (settings_of_zone z)) where
  seen_in_zone : (o : Option (ZoneOwner H)) (k : ℕ)
      → option_map of_zone (option_and_then (λ (x : ZoneOwner H). slice_get x.zones k) o)
      ≡ option_map of_global (option_and_then (settings_in (place.Zone k)) o)
  seen_in_zone None k = refl
  seen_in_zone (Some x) k = in_zone (slice_get x.zones k)
    where
      in_zone : (z : Option Zone) → option_map of_zone z ≡ option_map of_global (option_map settings_of_zone z)
      in_zone None = refl
      in_zone (Some z) = ap Some (alike z)

  seen_in_global : (o : Option (ZoneOwner H))
      → option_map (λ (x : ZoneOwner H). of_global x.global) o
      ≡ option_map of_global (option_and_then (settings_in place.Global) o)
  seen_in_global None = refl
  seen_in_global (Some x) = refl

pub gens_of_settings : {H : Type 0} (owners : List (ZoneOwner H)) (i : ℕ) (at : ZonePlace)
    → gens_at owners i at ≡ option_map (λ (s : Settings). s.gens) (settings_at owners i at)
gens_of_settings owners i place.Global =
    seen_in_global (λ (z : Zone). z.gens) (λ (s : Settings). s.gens) (λ z. refl) (slice_get owners i)
gens_of_settings owners i (place.Zone k) =
    seen_in_zone (λ (z : Zone). z.gens) (λ (s : Settings). s.gens) (λ z. refl) (slice_get owners i) k

pub mods_of_settings : {H : Type 0} (owners : List (ZoneOwner H)) (i : ℕ) (at : ZonePlace)
    → mods_at owners i at ≡ option_map (λ (s : Settings). s.mods) (settings_at owners i at)
mods_of_settings owners i place.Global =
    seen_in_global (λ (z : Zone). z.mods) (λ (s : Settings). s.mods) (λ z. refl) (slice_get owners i)
mods_of_settings owners i (place.Zone k) =
    seen_in_zone (λ (z : Zone). z.mods) (λ (s : Settings). s.mods) (λ z. refl) (slice_get owners i) k
