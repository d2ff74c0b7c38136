-- The settings of a place, its bag, and the owner after the bag is changed, inserted or removed.
use Rattle.std.proofs.Common.{if◌then◌else◌, ◌≡◌, ℕ, ◌<◌, ◌+◌, ◌==◌, true, false, List, [], ◌∷◌, ◌++◌, length, map}
use Rattle.std.proofs.Common.{insert, remove, slice_get, set, Option, Some, None, refl, sym, subst, ◌∙◌, ap}
use Rattle.std.proofs.Common.{append-nil, length-append, arith}
use Rattle.std.specs.FinMap.{entries, len, len-entries}
use Rattle.std.specs.Option.{option_map}
use Rattle.std.proofs.lemmas.Option.{slice_get-map}
use Rattle.std.proofs.lemmas.List.{nil_from_length}
use Rattle.std.proofs.lemmas.Bool.Decides.{nat_tests}
use Rattle.base_numbered_lists.specs.Moved.{changed}
use Rattle.base_numbered_lists.proofs.Lists.{changed-found, map-slice_set, slice_set_same}
use Rattle.flat_records.specs.Bags.{Bag}
use Rattle.bank_parts.specs.declared.parts.GlobalZone.{GlobalZone}
use Rattle.bank_parts.specs.declared.parts.Zone.{Zone}
use Rattle.bank_parts.specs.declared.parts.ZoneOwner.{ZoneOwner}
use Rattle.bank_parts.specs.declared.owners.ZonePlace.{ZonePlace}
use Rattle.bank_parts.specs.declared.owners.ZonePlace.TheVariants as place
use Rattle.bank_parts.specs.Owners.{HasPlace, gens_at, mods_at}
use Rattle.bank_parts.specs.Settings.{Settings, settings_of_zone, zone_with_settings, settings_in, settings_changed}
use Rattle.bank_parts.specs.Bagged.{zone_bag, global_bag, global_bags, bags_of, bag_number, without_last}
use Rattle.bank_parts.specs.Bagged.{without_target, IsPlain, IsPlainOwner}
use Rattle.bank_parts.specs.Flat.{RepresentOwners}
use Rattle.bank_parts.proofs.ListLaws.{everywhere-changed, get-right, changed-right}
use Rattle.bank_parts.proofs.ReadLaws.{zone-ends, plain-ends, without-last}
use Rattle.bank_parts.proofs.ZoneLaws.{zone_there}
use Rattle.bank_parts.proofs.PlaceLaws.{no_global_bag, one_global_bag, OwnerAt, owner_there}

-- ---- a place

pub record PlaceAt {H : Type 0} (op : ℕ) (bags : List (List Bag)) (owners : List (ZoneOwner H)) (i : ℕ)
    (at : ZonePlace) : Type 0 where
  pub found : OwnerAt op bags owners i
  pub settings : Settings
  pub has : settings_in at found.owner ≡ Some settings
  pub plain : IsPlain op settings.gens
  pub gens : gens_at owners i at ≡ Some settings.gens
  pub mods : mods_at owners i at ≡ Some settings.mods

pub place_there : {H : Type 0} {op : ℕ} {heads : List H} {bags : List (List Bag)} {owners : List (ZoneOwner H)}
    (a : RepresentOwners op heads bags owners) (i : ℕ) (at : ZonePlace)
    → HasPlace owners i at → PlaceAt op bags owners i at
place_there {H} {op} {heads} {bags} {owners} a i place.Global h =
    let o = owner_there a i h in
    record {
      found = o;
      settings = o.owner.global;
      has = refl;
      plain = o.plain.global;
      gens = ap (option_map (λ (x : ZoneOwner H). x.global.gens)) o.there;
      mods = ap (option_map (λ (x : ZoneOwner H). x.global.mods)) o.there;
    }
place_there {H} {op} {heads} {bags} {owners} a i (place.Zone k) h =
    let z = zone_there a i k h in
    record {
      found = z.found;
      settings = settings_of_zone z.zone;
      has = ap (option_map settings_of_zone) z.there;
      plain = z.plain;
      gens = ap (option_map (λ (z : Zone). z.gens)) z.seen;
      mods = ap (option_map (λ (z : Zone). z.mods)) z.seen;
    }

-- a place whose settings stay
pub changed_kept : {X : Type 0} (xs : List X) (i : ℕ) (f : X → X) (x : X) → slice_get xs i ≡ Some x → f x ≡ x
    → changed xs i f ≡ xs
changed_kept xs i f x e kept = changed-found xs i f x e ∙ (ap (set xs i) kept ∙ slice_set_same xs i x e)

pub settings_kept : {H : Type 0} (at : ZonePlace) (f : Settings → Settings) (x : ZoneOwner H) (s : Settings)
    → settings_in at x ≡ Some s → f s ≡ s → settings_changed at f x ≡ x
settings_kept place.Global f x s e kept =
    let same : x.global ≡ s = cc in
    let own : f x.global ≡ x.global = ap f same ∙ (kept ∙ sym same) in
    λ i. record { head = x.head; global = own i; zones = x.zones }
settings_kept (place.Zone k) f x s e kept =
    elim (slice_get x.zones k) as
    (λ o.
    slice_get x.zones k ≡ o → option_map settings_of_zone o ≡ Some s
    → settings_changed (place.Zone k) f x ≡ x) [
      | None ↦ λ there h. cc
      | Some z ↦ λ there h.
          let same : settings_of_zone z ≡ s = cc in
          let own : f (settings_of_zone z) ≡ settings_of_zone z = ap f same ∙ (kept ∙ sym same) in
          let zone : zone_with_settings (f (settings_of_zone z)) z ≡ z = ap (λ s. zone_with_settings s z) own in
          let zones =
          changed_kept x.zones k (λ (z : Zone). zone_with_settings (f (settings_of_zone z)) z) z there zone in
          λ i. record { head = x.head; global = x.global; zones = zones i }
    ] refl e

-- ---- its bag

pub record BagAt {H : Type 0} (op : ℕ) (at : ZonePlace) (x : ZoneOwner H) (s : Settings) (n : ℕ) : Type 0 where
  pub bag : Bag
  -- a zone's target
  pub last : List (ℕ × ℕ)
  pub found : slice_get (bags_of op x) n ≡ Some bag
  pub gens : bag.gens ≡ entries s.gens ++ last
  pub mods : bag.mods ≡ s.mods
  pub entries_held : without_target op bag.gens ≡ entries s.gens
  pub changes : (f : Settings → Settings) (F : Bag → Bag)
      → F bag ≡ record { gens = entries (f s).gens ++ last; mods = (f s).mods }
      → 0 < length (entries (f s).gens ++ last) + length (f s).mods
      → changed (bags_of op x) n F ≡ bags_of op (settings_changed at f x)
  pub closes : (f : Settings → Settings) → length bag.gens + length bag.mods ≡ 1
      → 0 < length (entries s.gens) + length s.mods
      → length (entries (f s).gens) + length (f s).mods ≡ 0
      → remove (bags_of op x) n ≡ bags_of op (settings_changed at f x)

some_held : (n : ℕ) → (n == 0) ≡ false → 0 < n
some_held n e = grind (arith, nat_tests)

none_held : (n : ℕ) → (n == 0) ≡ true → n ≡ 0
none_held n e = grind (arith, nat_tests)

global_size : (g : GlobalZone) → len g.gens + length g.mods ≡ length (entries g.gens) + length g.mods
global_size g = ap (λ n. n + length g.mods) (len-entries g.gens)

global_changes : {H : Type 0} (op : ℕ) (x : ZoneOwner H) → IsPlain op x.global.gens
    → 0 < len x.global.gens + length x.global.mods → BagAt op place.Global x x.global 0
global_changes op x plain some =
    let own = one_global_bag x.global some in
    record {
      bag = global_bag x.global;
      last = [];
      found = ap (λ bs. slice_get (bs ++ map (zone_bag op) x.zones) 0) own;
      gens = sym (append-nil (entries x.global.gens));
      mods = refl;
      entries_held =
          ap (λ c. if c then without_last (entries x.global.gens) else entries x.global.gens)
          (plain-ends op x.global.gens plain.unset);
      changes = λ f F e h.
          let new = f x.global in
          let size = global_size new in
          let none = ap length (append-nil (entries new.gens)) in
          let now = one_global_bag new (omega arith) in
          ap (λ bs. changed (bs ++ map (zone_bag op) x.zones) 0 F) own
          ∙ (ap (λ b. b ∷ map (zone_bag op) x.zones)
          (e ∙ ap (λ gens. record { gens = gens; mods = new.mods }) (append-nil (entries new.gens)))
          ∙ ap (λ bs. bs ++ map (zone_bag op) x.zones) (sym now));
      closes = λ f one held none.
          let new = f x.global in
          let size = global_size new in
          ap (λ bs. remove (bs ++ map (zone_bag op) x.zones) 0) own
          ∙ ap (λ bs. bs ++ map (zone_bag op) x.zones) (sym (no_global_bag new (omega arith)));
    }

zone_changes : {H : Type 0} (op k : ℕ) (x : ZoneOwner H) (z : Zone) → slice_get x.zones k ≡ Some z
    → BagAt op (place.Zone k) x (settings_of_zone z) (length (global_bags x.global) + k)
zone_changes op k x z there =
    let gs = global_bags x.global in
    let bag : slice_get (map (zone_bag op) x.zones) k ≡ Some (zone_bag op z) =
    slice_get-map (zone_bag op) x.zones k ∙ ap (option_map (zone_bag op)) there in
    record {
      bag = zone_bag op z;
      last = (op, z.target) ∷ [];
      found = get-right gs (map (zone_bag op) x.zones) k ∙ bag;
      gens = refl;
      mods = refl;
      entries_held =
          ap
          (λ c.
          if c then without_last (entries z.gens ++ (op, z.target) ∷ []) else
          (entries z.gens ++ (op, z.target) ∷ []))
          (zone-ends op z)
          ∙ without-last op (entries z.gens) z.target;
      changes = λ f F e h.
          let g = λ (z : Zone). zone_with_settings (f (settings_of_zone z)) z in
          changed-right gs (map (zone_bag op) x.zones) k F (zone_bag op z) bag
          ∙ ap (λ bs. gs ++ bs) (changed-found (map (zone_bag op) x.zones) k F (zone_bag op z) bag
          ∙ (ap (set (map (zone_bag op) x.zones) k) e
          ∙ (sym (map-slice_set (zone_bag op) x.zones k (g z))
          ∙ ap (map (zone_bag op)) (sym (changed-found x.zones k g z there)))));
      closes = λ f one held none.
          let sizes = length-append (entries z.gens) ((op, z.target) ∷ []) in
          absurd (omega arith);
    }

pub bag_there : {H : Type 0} (op : ℕ) (at : ZonePlace) (x : ZoneOwner H) (s : Settings) (n : ℕ)
    → settings_in at x ≡ Some s → IsPlain op s.gens → bag_number at x ≡ Some n → BagAt op at x s n
bag_there {H} op place.Global x s n e plain h =
    let same : x.global ≡ s = cc in
    elim (len x.global.gens + length x.global.mods == 0) as
    (λ c.
    (len x.global.gens + length x.global.mods == 0) ≡ c → (if c then None else Some 0) ≡ Some n
    → BagAt op place.Global x s n) [
      | true ↦ λ is g. cc
      | false ↦ λ is g.
          let first : 0 ≡ n = cc in
          subst (λ n. BagAt op place.Global x s n) first
          (subst (λ s. BagAt op place.Global x s 0) same
          (global_changes op x (subst (λ (s : Settings). IsPlain op s.gens) (sym same) plain)
          (some_held (len x.global.gens + length x.global.mods) is)))
    ] refl h
bag_there {H} op (place.Zone k) x s n e plain h =
    let at : length (global_bags x.global) + k ≡ n = cc in
    elim (slice_get x.zones k) as
    (λ o. slice_get x.zones k ≡ o → option_map settings_of_zone o ≡ Some s → BagAt op (place.Zone k) x s n) [
      | None ↦ λ there g. cc
      | Some z ↦ λ there g.
          let same : settings_of_zone z ≡ s = cc in
          subst (λ n. BagAt op (place.Zone k) x s n) at
          (subst (λ s. BagAt op (place.Zone k) x s (length (global_bags x.global) + k)) same
          (zone_changes op k x z there))
    ] refl e

-- ---- no bag

pub record NoBag {H : Type 0} (op : ℕ) (at : ZonePlace) (x : ZoneOwner H) (s : Settings) : Type 0 where
  pub gens : entries s.gens ≡ []
  pub mods : s.mods ≡ []
  pub opens : (f : Settings → Settings) → 0 < length (entries (f s).gens) + length (f s).mods
      → insert (bags_of op x) 0 (record { gens = entries (f s).gens; mods = (f s).mods })
      ≡ bags_of op (settings_changed at f x)

pub no_bag_there : {H : Type 0} (op : ℕ) (at : ZonePlace) (x : ZoneOwner H) (s : Settings)
    → settings_in at x ≡ Some s → bag_number at x ≡ None → NoBag op at x s
no_bag_there op (place.Zone k) x s e h = cc
no_bag_there {H} op place.Global x s e h =
    let same : x.global ≡ s = cc in
    elim (len x.global.gens + length x.global.mods == 0) as
    (λ c.
    (len x.global.gens + length x.global.mods == 0) ≡ c
    → ◌≡◌ {A = Option ℕ} (if c then None else Some 0) None → NoBag op place.Global x s) [
      | false ↦ λ is g. cc
      | true ↦ λ is g.
          let none : len x.global.gens + length x.global.mods ≡ 0 =
          none_held (len x.global.gens + length x.global.mods) is in
          let size = global_size x.global in
          subst (λ s. NoBag op place.Global x s) same (record {
            gens = nil_from_length (entries x.global.gens) (omega arith);
            mods = nil_from_length x.global.mods (omega arith);
            opens = λ f some.
                let new = f x.global in
                let count = global_size new in
                ap (λ bs. insert (bs ++ map (zone_bag op) x.zones) 0 (global_bag new)) (no_global_bag x.global none)
                ∙ ap (λ bs. bs ++ map (zone_bag op) x.zones) (sym (one_global_bag new (omega arith)));
          })
    ] refl h

-- ---- the owner afterwards

pub head_stays : {H : Type 0} (at : ZonePlace) (f : Settings → Settings) (x : ZoneOwner H)
    → (settings_changed at f x).head ≡ x.head
head_stays place.Global f x = refl
head_stays (place.Zone k) f x = refl

pub plain_after : {H : Type 0} (op : ℕ) (at : ZonePlace) (f : Settings → Settings) (x : ZoneOwner H) (s : Settings)
    → settings_in at x ≡ Some s
    → IsPlainOwner op x → IsPlain op (f s).gens → IsPlainOwner op (settings_changed at f x)
plain_after op place.Global f x s e p q =
    let same : x.global ≡ s = cc in
    record { global = subst (λ s. IsPlain op (f s).gens) (sym same) q; zones = p.zones }
plain_after op (place.Zone k) f x s e p q =
    elim (slice_get x.zones k) as
    (λ o.
    slice_get x.zones k ≡ o → option_map settings_of_zone o ≡ Some s
    → IsPlainOwner op (settings_changed (place.Zone k) f x)) [
      | None ↦ λ there g. cc
      | Some z ↦ λ there g.
          let same : settings_of_zone z ≡ s = cc in
          record {
            global = p.global;
            zones =
                everywhere-changed (λ (z : Zone). IsPlain op z.gens) x.zones k
                (λ (z : Zone). zone_with_settings (f (settings_of_zone z)) z) z there
                (subst (λ s. IsPlain op (f s).gens) (sym same) q) p.zones;
          }
    ] refl e
