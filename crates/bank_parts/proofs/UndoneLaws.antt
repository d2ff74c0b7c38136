-- The undo laws of edits of zones, generators and modulators, and what is read between an edit and its inverse.
use Rattle.std.proofs.Common.{◌≡◌, ◌<◌, ◌≤◌, ℕ, List, length, insert, remove, Option, Some, None, IsSome, cond, refl}
use Rattle.std.proofs.Common.{sym, ap, ◌∙◌}
use Rattle.std.specs.Prelude.{slice_get, slice_set, IsSomeAnd}
use Rattle.std.specs.Option.{option_map, option_and_then}
use Rattle.std.specs.FinMap as map
use Rattle.base_numbered_lists.specs.Moved.{moved, changed}
use Rattle.base_numbered_lists.proofs.Lists.{insert-remove, remove-insert, moved-back, slice_set-back, changed-back}
use Rattle.base_numbered_lists.proofs.Lists.{slice_get-insert, slice_get-moved, slice_get-found, slice_get-within}
use Rattle.base_numbered_lists.proofs.Lists.{slice_get-slice_set}
use Rattle.generators.specs.Gens.{Gens}
use Rattle.generators.proofs.MapLaws as gens
use Rattle.generators.proofs.Order.{tied_same}
use Rattle.modulators.specs.declared.modulator.Modulator.{Modulator}
use Rattle.bank_parts.specs.declared.owners.ZonePlace.{ZonePlace}
use Rattle.bank_parts.specs.declared.owners.ZonePlace.TheVariants as place
use Rattle.bank_parts.specs.declared.parts.Zone.{Zone}
use Rattle.bank_parts.specs.declared.parts.ZoneOwner.{ZoneOwner}
use Rattle.bank_parts.specs.Owners.{HasPlace, zone_count_at, zone_at, mods_at, amount_at, mod_at}
use Rattle.bank_parts.specs.Settings.{Settings, settings_of_zone, settings_in, settings_at, place_changed, zones_at}
use Rattle.bank_parts.specs.Settings.{zones_changed, with_gens, with_mods}
use Rattle.bank_parts.specs.ZoneChanges.{with_target, gen_cleared}
use Rattle.bank_parts.specs.ChangesUndone.{ZoneAddedUndone, ZoneRemovedUndone, ZoneMovedUndone, TargetSetBack}
use Rattle.bank_parts.specs.ChangesUndone.{GenSetBack, GenSetCleared, GenClearedUndone, ModAddedUndone}
use Rattle.bank_parts.specs.ChangesUndone.{ModRemovedUndone, ModSetBack, ZoneAddedRead, ZoneMovedRead, TargetSetRead}
use Rattle.bank_parts.specs.ChangesUndone.{GenSetRead, GenClearedRead, ModAddedRead, ModSetRead}
use Rattle.bank_parts.proofs.SettingLaws.{source, Given, given, read_changed, place_read, place_returns, zones_read}
use Rattle.bank_parts.proofs.SettingLaws.{zones_return, gens_of_settings, mods_of_settings}

-- ---- owners and zones that exist

some_there : {X : Type 0} (o : Option X) → IsSome o → (x : X) × (o ≡ Some x)
some_there None h = cc
some_there (Some x) h = (x, refl)

some_same : {X : Type 0} (o : Option X) (x y : X) → o ≡ Some x → o ≡ Some y → x ≡ y
some_same o x y e h = cc

-- a value that exists, and of which P holds
pub record Existing {X : Type 0} (o : Option X) (P : X → Type 0) : Type 0 where
  pub member : X
  pub there : o ≡ Some member
  pub holds : P member

-- `option_and_then` after `option_map`
given_by_part : {X Y Z : Type 0} (f : X → Y) (g : Y → Option Z) (o : Option X)
    → option_and_then g (option_map f o) ≡ option_and_then (λ x. g (f x)) o
given_by_part f g None = refl
given_by_part f g (Some x) = refl

module _ {H : Type 0} (owners : List (ZoneOwner H)) (i : ℕ) where
  pub zone_of_zones : (k : ℕ)
      → zone_at owners i k ≡ option_and_then (λ (zones : List Zone). slice_get zones k) (zones_at owners i)
  zone_of_zones k =
      sym
      (given_by_part (λ (x : ZoneOwner H). x.zones) (λ (zones : List Zone). slice_get zones k)
      (slice_get owners i))

  pub amount_of_settings : (at : ZonePlace) (op : ℕ)
      → amount_at owners i at op ≡ option_and_then (λ (s : Settings). map.get s.gens op) (settings_at owners i at)
  amount_of_settings at op =
      ap (option_and_then (λ (gens : Gens). map.get gens op)) (gens_of_settings owners i at)
      ∙ given_by_part (λ (s : Settings). s.gens) (λ (gens : Gens). map.get gens op) (settings_at owners i at)

  pub mod_of_settings : (at : ZonePlace) (j : ℕ)
      → mod_at owners i at j ≡ option_and_then (λ (s : Settings). slice_get s.mods j) (settings_at owners i at)
  mod_of_settings at j =
      ap (option_and_then (λ (mods : List Modulator). slice_get mods j)) (mods_of_settings owners i at)
      ∙ given_by_part (λ (s : Settings). s.mods) (λ (mods : List Modulator). slice_get mods j)
      (settings_at owners i at)

  -- an owner and the number of its zones
  pub zones_there : (P : ℕ → Type 0) → IsSomeAnd (zone_count_at owners i) P
      → Existing (zones_at owners i) (λ zones. P (length zones))
  zones_there P h = here (slice_get owners i) h
    where
      here : (o : Option (ZoneOwner H)) → IsSomeAnd (option_map (λ (x : ZoneOwner H). length x.zones) o) P
          → Existing (option_map (λ (x : ZoneOwner H). x.zones) o) (λ zones. P (length zones))
      here None h = absurd h
      here (Some x) h = record { member = x.zones; there = refl; holds = h }

  -- two zones of an owner
  both_there : (k l : ℕ) → HasPlace owners i (place.Zone k) → HasPlace owners i (place.Zone l)
      → Existing (zones_at owners i) (λ zones. (k < length zones) × (l < length zones))
  both_there k l h m =
      let t = zones_there (λ count. k < count) h in
      let u = zones_there (λ count. l < count) m in
      let same : u.member ≡ t.member = some_same (zones_at owners i) u.member t.member u.there t.there in
      let lt : l < length t.member = rw same at u.holds in
      record { member = t.member; there = t.there; holds = (t.holds, lt) }

  pub zone_in : (k : ℕ) (zone : Zone) → zone_at owners i k ≡ Some zone
      → Given (λ (zones : List Zone). slice_get zones k) (zones_at owners i) zone
  zone_in k zone e =
      given (λ (zones : List Zone). slice_get zones k) (zones_at owners i) zone (sym (zone_of_zones k) ∙ e)

  pub amount_in : (at : ZonePlace) (op was : ℕ) → amount_at owners i at op ≡ Some was
      → Given (λ (s : Settings). map.get s.gens op) (settings_at owners i at) was
  amount_in at op was e =
      given (λ (s : Settings). map.get s.gens op) (settings_at owners i at) was (sym (amount_of_settings at op) ∙ e)

  pub mod_in : (at : ZonePlace) (j : ℕ) (m : Modulator) → mod_at owners i at j ≡ Some m
      → Given (λ (s : Settings). slice_get s.mods j) (settings_at owners i at) m
  mod_in at j m e =
      given (λ (s : Settings). slice_get s.mods j) (settings_at owners i at) m (sym (mod_of_settings at j) ∙ e)

  pub settings_there : (at : ZonePlace) → HasPlace owners i at → (s : Settings) × (settings_at owners i at ≡ Some s)
  settings_there place.Global h =
      let (x, e) = slice_get-found owners i h in
      (x.global, ap (option_and_then (settings_in place.Global)) e)
  settings_there (place.Zone k) h =
      let t = zones_there (λ count. k < count) h in
      let (zone, e) = slice_get-found t.member k t.holds in
      let x = source (λ (x : ZoneOwner H). x.zones) (slice_get owners i) t.member t.there in (
        settings_of_zone zone,
        ap (option_and_then (settings_in (place.Zone k))) x.there
            ∙
            (ap (λ (zs : List Zone). option_map settings_of_zone (slice_get zs k)) x.seen
            ∙ ap (option_map settings_of_zone) e),
      )

  pub mods_there : (at : ZonePlace) (P : List Modulator → Type 0) → IsSomeAnd (mods_at owners i at) P
      → Existing (settings_at owners i at) (λ s. P s.mods)
  mods_there at P h = here (settings_at owners i at) (rw (mods_of_settings owners i at) at h)
    where
      here : (o : Option Settings) → IsSomeAnd (option_map (λ (s : Settings). s.mods) o) P → Existing o (λ s. P s.mods)
      here None h = absurd h
      here (Some s) h = record { member = s; there = refl; holds = h }

-- ---- zones

pub zone_added_undone : {H : Type 0} → ZoneAddedUndone H
zone_added_undone owners i k zone h =
    let t = zones_there owners i (λ count. k ≤ count) h in
    let zones = t.member in
    zones_return owners i (λ zs. insert zs k zone) (λ zs. remove zs k) zones t.there
    (remove-insert zones k zone t.holds)

pub zone_removed_undone : {H : Type 0} → ZoneRemovedUndone H
zone_removed_undone owners i k zone e =
    let h = zone_in owners i k zone e in
    zones_return owners i (λ zs. remove zs k) (λ zs. insert zs k zone) h.member h.there
    (insert-remove h.member k zone h.gives)

pub zone_moved_undone : {H : Type 0} → ZoneMovedUndone H
zone_moved_undone owners i from to h l =
    let t = both_there owners i from to h l in
    let zones = t.member in
    zones_return owners i (λ zs. moved zs from to) (λ zs. moved zs to from) zones t.there
    (moved-back zones from to t.holds.0 t.holds.1)

pub target_set_back : {H : Type 0} → TargetSetBack H
target_set_back owners i k was target e =
    let z = source (λ (z : Zone). z.target) (zone_at owners i k) was e in
    let h = zone_in owners i k z.member z.there in
    zones_return owners i (λ zs. changed zs k (with_target target)) (λ zs. changed zs k (with_target was)) h.member
    h.there
    (changed-back h.member k (with_target target) (with_target was) z.member h.gives
    (ap (λ (t : ℕ). with_target t z.member) (sym z.seen)))

-- ---- generators

pub gen_set_back : {H : Type 0} → GenSetBack H
gen_set_back owners i at op was amount e =
    let h = amount_in owners i at op was e in
    place_returns owners i at (λ s. with_gens (map.insert s.gens op amount) s)
    (λ s. with_gens (map.insert s.gens op was) s) h.member h.there
    (ap (λ gens. with_gens gens h.member) (gens.insert-insert_back h.member.gens op was amount h.gives))

pub gen_cleared_undone : {H : Type 0} → GenClearedUndone H
gen_cleared_undone owners i at op was e =
    let h = amount_in owners i at op was e in
    place_returns owners i at (λ s. with_gens (map.remove s.gens op) s) (λ s. with_gens (map.insert s.gens op was) s)
    h.member h.there
    (ap (λ gens. with_gens gens h.member) (gens.insert-remove h.member.gens op was h.gives))

pub gen_set_cleared : {H : Type 0} → GenSetCleared H
gen_set_cleared owners i at op amount h e =
    let (s, there) = settings_there owners i at h in
    let unset : map.get s.gens op ≡ None =
    sym (amount_of_settings owners i at op ∙ ap (option_and_then (λ (s : Settings). map.get s.gens op)) there)
    ∙ e in
    place_returns owners i at (λ s. with_gens (map.insert s.gens op amount) s)
    (λ s. with_gens (map.remove s.gens op) s) s there
    (ap (λ gens. with_gens gens s) (gens.remove-insert s.gens op amount unset))

-- ---- modulators

pub mod_added_undone : {H : Type 0} → ModAddedUndone H
mod_added_undone owners i at j m h =
    let t = mods_there owners i at (λ mods. j ≤ length mods) h in
    let s = t.member in
    place_returns owners i at (λ s. with_mods (insert s.mods j m) s) (λ s. with_mods (remove s.mods j) s) s t.there
    (ap (λ mods. with_mods mods s) (remove-insert s.mods j m t.holds))

pub mod_removed_undone : {H : Type 0} → ModRemovedUndone H
mod_removed_undone owners i at j m e =
    let h = mod_in owners i at j m e in
    place_returns owners i at (λ s. with_mods (remove s.mods j) s) (λ s. with_mods (insert s.mods j m) s) h.member
    h.there
    (ap (λ mods. with_mods mods h.member) (insert-remove h.member.mods j m h.gives))

pub mod_set_back : {H : Type 0} → ModSetBack H
mod_set_back owners i at j was m e =
    let h = mod_in owners i at j was e in
    place_returns owners i at (λ s. with_mods (slice_set s.mods j m) s) (λ s. with_mods (slice_set s.mods j was) s)
    h.member h.there
    (ap (λ mods. with_mods mods h.member) (slice_set-back h.member.mods j was m h.gives))

-- ---- what is read between an edit and its inverse

set_is_read : (m : Gens) (op amount : ℕ) → map.get (map.insert m op amount) op ≡ Some amount
set_is_read m op amount =
    gens.get-insert_any m op amount op ∙ ap (λ b. cond b (Some amount) (map.get m op)) (tied_same op)

cleared_is_read : (m : Gens) (op : ℕ) → map.get (map.remove m op) op ≡ None
cleared_is_read m op = gens.get-remove_any m op op ∙ ap (λ b. cond b None (map.get m op)) (tied_same op)

-- what is read after a change of an existing value
module _ {H : Type 0} (owners : List (ZoneOwner H)) (i : ℕ) where
  zone_then : (f : List Zone → List Zone) (zones : List Zone) → zones_at owners i ≡ Some zones → (k : ℕ)
      → zone_at (zones_changed owners i f) i k ≡ slice_get (f zones) k
  zone_then f zones e k =
      zone_of_zones (zones_changed owners i f) i k
      ∙ ap (option_and_then (λ (zs : List Zone). slice_get zs k)) (zones_read owners i f ∙ ap (option_map f) e)

  module _ (at : ZonePlace) (f : Settings → Settings) (s : Settings) (e : settings_at owners i at ≡ Some s) where
    settings_then : settings_at (place_changed owners i at f) i at ≡ Some (f s)
    settings_then = place_read owners i at f ∙ ap (option_map f) e

    amount_then : (op : ℕ) → amount_at (place_changed owners i at f) i at op ≡ map.get (f s).gens op
    amount_then op =
        amount_of_settings (place_changed owners i at f) i at op
        ∙ ap (option_and_then (λ (s : Settings). map.get s.gens op)) settings_then

    mod_then : (j : ℕ) → mod_at (place_changed owners i at f) i at j ≡ slice_get (f s).mods j
    mod_then j =
        mod_of_settings (place_changed owners i at f) i at j
        ∙ ap (option_and_then (λ (s : Settings). slice_get s.mods j)) settings_then

pub zone_added_read : {H : Type 0} → ZoneAddedRead H
zone_added_read owners i k zone h =
    let t = zones_there owners i (λ count. k ≤ count) h in
    zone_then owners i (λ zs. insert zs k zone) t.member t.there k ∙ slice_get-insert t.member k zone t.holds

pub zone_moved_read : {H : Type 0} → ZoneMovedRead H
zone_moved_read owners i from to h l =
    let t = both_there owners i from to h l in
    zone_then owners i (λ zs. moved zs from to) t.member t.there to
    ∙ (slice_get-moved t.member from to t.holds.0 t.holds.1
    ∙ (sym (ap (option_and_then (λ (zs : List Zone). slice_get zs from)) t.there) ∙ sym (zone_of_zones owners i from)))

pub target_set_read : {H : Type 0} → TargetSetRead H
target_set_read owners i k target h =
    let t = zones_there owners i (λ count. k < count) h in
    let (zone, e) = slice_get-found t.member k t.holds in
    ap (option_map (λ (z : Zone). z.target))
    (zone_then owners i (λ zs. changed zs k (with_target target)) t.member t.there k
    ∙ (read_changed t.member k (with_target target) ∙ ap (option_map (with_target target)) e))

pub gen_set_read : {H : Type 0} → GenSetRead H
gen_set_read owners i at op amount h =
    let (s, there) = settings_there owners i at h in
    amount_then owners i at (λ s. with_gens (map.insert s.gens op amount) s) s there op ∙ set_is_read s.gens op amount

pub gen_cleared_read : {H : Type 0} → GenClearedRead H
gen_cleared_read owners i at op =
    amount_of_settings (gen_cleared owners i at op) i at op
    ∙
    (ap (option_and_then (λ (s : Settings). map.get s.gens op))
    (place_read owners i at (λ (s : Settings). with_gens (map.remove s.gens op) s))
    ∙ here (settings_at owners i at))
  where
    here : (o : Option Settings)
        → option_and_then (λ (s : Settings). map.get s.gens op)
        (option_map (λ (s : Settings). with_gens (map.remove s.gens op) s) o)
        ≡ None
    here None = refl
    here (Some s) = cleared_is_read s.gens op

pub mod_added_read : {H : Type 0} → ModAddedRead H
mod_added_read owners i at j m h =
    let t = mods_there owners i at (λ mods. j ≤ length mods) h in
    mod_then owners i at (λ s. with_mods (insert s.mods j m) s) t.member t.there j
    ∙ slice_get-insert t.member.mods j m t.holds

pub mod_set_read : {H : Type 0} → ModSetRead H
mod_set_read owners i at j m h =
    let (was, is) = some_there (mod_at owners i at j) h in
    let s = mod_in owners i at j was is in
    mod_then owners i at (λ s. with_mods (slice_set s.mods j m) s) s.member s.there j
    ∙ slice_get-slice_set s.member.mods j m (slice_get-within s.member.mods j was s.gives)
