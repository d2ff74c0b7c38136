-- An operator set in a zone, then a zone inserted after it.
use Rattle.std.proofs.Common.{◌≡◌, ℕ, ◌<◌, ◌≤◌, ◌+◌, ◌^◌, List, length, insert, slice_get, set, Some, refl, sym, subst, ◌∙◌, ap}
use Rattle.std.proofs.Common.{arith}
use Rattle.std.specs.Prelude.{Result, Ok, Err, IfOk, IfErr}
use Rattle.std.specs.FinMap as map
use Rattle.std.specs.Option.{IfSome, IsSomeAnd, option_map}
use Rattle.base_numbered_lists.specs.Moved.{changed}
use Rattle.base_numbered_lists.proofs.Lists.{slice_get-changed, length-changed}
use Rattle.generators.specs.Indexes.{IsAt, IsInsertionIndex}
use Rattle.generators.specs.Levels.{target_operator}
use Rattle.generators.specs.declared.level.Level.{Level}
use Rattle.flat_records.specs.Bags.{Bag, gens_in, with_gens}
use Rattle.flat_records.specs.Owned.{all_bags, bag_at, bag_changed}
use Rattle.bank_parts.specs.declared.owners.ZonePlace.TheVariants as place
use Rattle.bank_parts.specs.declared.parts.Zone.{Zone}
use Rattle.bank_parts.specs.declared.parts.ZoneOwner.{ZoneOwner}
use Rattle.bank_parts.specs.Bagged.{zone_bag, global_bags, IsPlain}
use Rattle.bank_parts.specs.Changes.{FitsIndex, gens_with}
use Rattle.bank_parts.specs.Flat.{RepresentOwners}
use Rattle.bank_parts.specs.Owners.{HasPlace, entries_at}
use Rattle.bank_parts.specs.Room.{AreStorable}
use Rattle.bank_parts.specs.Settings.{Settings, settings_of_zone, zone_with_settings, settings_changed}
use Rattle.bank_parts.specs.Settings as settings
use Rattle.bank_parts.specs.ZoneChanges.{zone_added, gen_set}
use Rattle.bank_parts.proofs.PlaceLaws.{of_some, zone_numbered}
use Rattle.bank_parts.proofs.PlaceChanges.{BagPlace, bag_place, gen_within, gen_place}
use Rattle.bank_parts.proofs.GenChanges.{gen_is_set, gen_is_put}
use Rattle.bank_parts.proofs.StorableLaws.{zone_out, zone_in, gen_held, gen_other}
use Rattle.bank_parts.proofs.ZoneLaws.{ZonesAt, zones_there, zone_put}

-- the place at which a zone can be inserted as zone k of owner i, and the index of its bag
pub record NewPlace {H : Type 0} (op : ℕ) (heads : List H) (bags : List (List Bag)) (owners : List (ZoneOwner H))
    (i k n : ℕ) (zone : Zone) : Type 0 where
  pub held : RepresentOwners op heads bags owners
  pub zones : ZonesAt op bags owners i (λ count. k ≤ count)
  pub number : IfSome (slice_get owners i) (λ (x : ZoneOwner H). n ≡ length (global_bags x.global) + k)
  pub plain : IsPlain op zone.gens

pub zone_is_put : {H : Type 0} {op : ℕ} {heads : List H} {bags : List (List Bag)} {owners : List (ZoneOwner H)}
    {i k n : ℕ} {zone : Zone} (p : NewPlace op heads bags owners i k n zone) (bs : List (List Bag)) {o : ℕ} → o ≡ op
    → bs ≡ changed bags i (λ own. insert own n (zone_bag o zone))
    → RepresentOwners op heads bs (zone_added owners i k zone)
zone_is_put {n = n} {zone = zone} p bs is e =
    zone_put p.held p.zones n zone bs p.number is (subst (λ op. IsPlain op zone.gens) (sym is) p.plain) refl e

module _ {H : Type 0} {level : Level} {heads : List H} {bags : List (List Bag)} {owners : List (ZoneOwner H)}
    (a : RepresentOwners (target_operator level) heads bags owners) (i k n : ℕ)
    (h : HasPlace owners i (place.Zone k))
    (number : IfSome (slice_get owners i) (λ (x : ZoneOwner H). n ≡ length (global_bags x.global) + k)) (o w : ℕ)
    (next : Zone) (fit_o : o < 2 ^ 16) (fit_w : w < 2 ^ 16)
    (storable : AreStorable level (zone_added (gen_set owners i (place.Zone k) o w) i (k + 1) next)) where
  zone : ZonesAt (target_operator level) bags owners i (λ count. k < count)
  zone = zones_there a i (λ count. k < count) h

  own : BagPlace (target_operator level) heads bags owners i (place.Zone k) n
  own = bag_place a i (place.Zone k) h n (zone_numbered (slice_get owners i) n (place.Zone k) k refl number)

  abbrev setting : Settings → Settings
  setting s = settings.with_gens (map.insert s.gens o w) s

  set_there : slice_get (gen_set owners i (place.Zone k) o w) i
      ≡ Some (settings_changed (place.Zone k) setting zone.found.owner)
  set_there = slice_get-changed owners i (settings_changed (place.Zone k) setting) zone.found.owner zone.found.there

  -- flat lists that can hold both changes can hold the first
  set_storable : AreStorable level (gen_set owners i (place.Zone k) o w)
  set_storable =
      zone_out (gen_set owners i (place.Zone k) o w) i (k + 1) next
      (settings_changed (place.Zone k) setting zone.found.owner) set_there storable

  module _ {es : List (ℕ × ℕ)} (there : entries_at owners i (place.Zone k) ≡ Some es) {room : List (List Bag)}
      (kept : room ≡ bags) where
    pub index_fits : (index : Result ℕ ℕ) → IfOk index (λ j. IsAt es o j) → IfErr index (λ j. IsInsertionIndex es o j)
        → IsSomeAnd (bag_at room i n) (λ (b : Bag). FitsIndex b.gens index)
    index_fits (Ok j) is gap =
        subst (λ bags. IsSomeAnd (bag_at bags i n) (λ (b : Bag). j < length b.gens)) (sym kept)
        (gen_within own there is)
    index_fits (Err j) is gap = gen_place own there gap kept

    pub gen_limit : (index : Result ℕ ℕ) → IfErr index (λ j. IsInsertionIndex es o j)
        → IfErr index (λ (j : ℕ). length (gens_in (all_bags room)) + 1 < 2 ^ 16)
    gen_limit (Ok j) gap = tt
    gen_limit (Err j) gap =
        subst (λ bags. length (gens_in (all_bags bags)) + 1 < 2 ^ 16) (sym kept)
        (gen_held own there w fit_o fit_w gap set_storable).gens

    gen_is_with : (index : Result ℕ ℕ) → IfOk index (λ j. IsAt es o j)
        → IfErr index (λ j. IsInsertionIndex es o j) → (bs : List (List Bag))
        → bs ≡ bag_changed room i n (λ (b : Bag). with_gens (gens_with b.gens index (o, w)) b)
        → RepresentOwners (target_operator level) heads bs (gen_set owners i (place.Zone k) o w)
    gen_is_with (Ok j) is gap bs e =
        gen_is_set own there w bs (gen_other own.place o w set_storable) fit_o fit_w is
        (e ∙ ap (λ bags. bag_changed bags i n (λ (b : Bag). with_gens (set b.gens j (o, w)) b)) kept)
    gen_is_with (Err j) is gap bs e =
        gen_is_put own there w bs (gen_other own.place o w set_storable) fit_o fit_w gap kept e

    pub place_after : (index : Result ℕ ℕ) → IfOk index (λ j. IsAt es o j)
        → IfErr index (λ j. IsInsertionIndex es o j) → (bs : List (List Bag))
        → bs ≡ bag_changed room i n (λ (b : Bag). with_gens (gens_with b.gens index (o, w)) b)
        → NewPlace (target_operator level) heads bs (gen_set owners i (place.Zone k) o w) i (k + 1) (n + 1) next
    place_after index is gap bs e =
        let set = gen_is_with index is gap bs e in
        let at = of_some (λ (x : ZoneOwner H). n ≡ length (global_bags x.global) + k) zone.found.there number in
        let fits = zone.fits in
        let same =
        length-changed zone.found.owner.zones k (λ (z : Zone). zone_with_settings (setting (settings_of_zone z)) z) in
        record {
          held =
              set;
          zones =
              zones_there set i (λ count. k + 1 ≤ count)
              (subst
              (λ o. IsSomeAnd (option_map (λ (x : ZoneOwner H). length x.zones) o) (λ count. k + 1 ≤ count))
              (sym set_there) (omega arith));
          number =
              subst (λ o. IfSome o (λ (x : ZoneOwner H). n + 1 ≡ length (global_bags x.global) + (k + 1)))
              (sym set_there) (omega arith);
          plain =
              zone_in (gen_set owners i (place.Zone k) o w) i (k + 1)
              (settings_changed (place.Zone k) setting zone.found.owner) next set_there storable;
        }
