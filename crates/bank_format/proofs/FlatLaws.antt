-- The tables of a bank are its flat lists, record by record.
use Rattle.std.proofs.Common.{◌≡◌, ◌+◌, ◌==◌, if◌then◌else◌, ℕ, Bool, true, false, List, [], ◌∷◌, ◌++◌, length, map}
use Rattle.std.proofs.Common.{refl, sym, ap, ◌∙◌}
use Rattle.std.specs.Prelude.{flat_map}
use Rattle.std.specs.FinMap.{entries, len}
use Rattle.std.proofs.lemmas.List.{length-map, map-append}
use Rattle.generators.specs.Levels.{target_operator}
use Rattle.generators.specs.declared.level.Level.{Level}
use Rattle.modulators.specs.declared.modulator.Modulator.{Modulator}
use Rattle.hydra_records.specs.declared.zone.Generator.{Generator}
use Rattle.flat_records.specs.Bags.{Bag, past_bag, gens_in, mods_in}
use Rattle.flat_records.specs.Runs as runs
use Rattle.flat_records.specs.Owned as owned
use Rattle.bank_parts.specs.declared.parts.GlobalZone.{GlobalZone}
use Rattle.bank_parts.specs.declared.parts.Zone.{Zone}
use Rattle.bank_parts.specs.declared.parts.ZoneOwner.{ZoneOwner}
use Rattle.bank_parts.specs.declared.parts.Parts.{Parts}
use Rattle.bank_parts.specs.Bagged as parts
use Rattle.bank_parts.specs.FlatLists.{lists_of}
use Rattle.bank_format.specs.Windows.{ends, zip_with}
use Rattle.bank_format.specs.Zones.{Bagged, zone_written, bags_written}
use Rattle.bank_format.specs.Tables.{Headers, bag, bag_list, mod_list, gen_list, modulator_end, generator_end}
use Rattle.bank_format.specs.Tables.{bags_of, all_bags, heads_from, presets, instruments, tables_of}
use Rattle.bank_format.specs.FlatTables.{headers_of, bag_of, generator_of, AreOfLists, TablesAreFlat}

-- ---- one bag, in flat lists and in a table

abbrev as_bagged : Bag → Bagged
as_bagged b = record { gens = map generator_of b.gens; mods = b.mods }

zone-as : (at : Level) (z : Zone) → zone_written at z ≡ as_bagged (parts.zone_bag (target_operator at) z)
zone-as at z =
    let gens = sym (map-append generator_of (entries z.gens) ((target_operator at, z.target) ∷ [])) in
    λ i. record { gens = gens i; mods = z.mods }

zones-as : (at : Level) (zs : List Zone)
    → map (zone_written at) zs ≡ map as_bagged (map (parts.zone_bag (target_operator at)) zs)
zones-as at [] = refl
zones-as at (z ∷ zs) = λ i. zone-as at z i ∷ zones-as at zs i

global-by : (g : GlobalZone) (none : Bool)
    → (if none then [] else (as_bagged (parts.global_bag g) ∷ []))
    ≡ map as_bagged (if none then [] else (parts.global_bag g ∷ []))
global-by g true = refl
global-by g false = refl

-- ---- the bags of a preset or an instrument, and of all

own-as : {H : Type 0} (at : Level) (x : ZoneOwner H)
    → bags_of at x ≡ map as_bagged (parts.bags_of (target_operator at) x)
unfolding bags_written
own-as at x =
    (λ i. global-by x.global (len x.global.gens + length x.global.mods == 0) i ++ zones-as at x.zones i)
    ∙ sym (map-append as_bagged (parts.global_bags x.global) (map (parts.zone_bag (target_operator at)) x.zones))

module _ {H : Type 0} (at : Level) where
  abbrev flat_bags : List (ZoneOwner H) → List (List Bag)
  flat_bags xs = map (parts.bags_of (target_operator at)) xs

  all-as : (xs : List (ZoneOwner H)) → all_bags at xs ≡ map as_bagged (owned.all_bags (flat_bags xs))
  all-as [] = refl
  all-as (x ∷ xs) =
      (λ i. own-as at x i ++ all-as xs i)
      ∙ sym (map-append as_bagged (parts.bags_of (target_operator at) x) (owned.all_bags (flat_bags xs)))

  own-count : (x : ZoneOwner H) → length (bags_of at x) ≡ length (parts.bags_of (target_operator at) x)
  own-count x = ap length (own-as at x) ∙ length-map (parts.bags_of (target_operator at) x) as_bagged

-- ---- headers

heads-as : {H R : Type 0} (h : Headers H R) (from : ℕ) (xs : List (ZoneOwner H))
    → heads_from h from xs ≡ headers_of h xs (runs.starts owned.past_owner from (flat_bags h.level xs))
heads-as h from [] = refl
heads-as h from (x ∷ xs) =
    ap (λ n. h.written from x.head ∷ heads_from h (from + n) xs) (own-count h.level x)
    ∙ ap (λ rest. h.written from x.head ∷ rest)
    (heads-as h (from + length (parts.bags_of (target_operator h.level) x)) xs)

-- ---- lists

bags-from : (gens mods : ℕ) (bs : List Bag)
    → zip_with bag (gens ∷ ends gens (map (λ (r : Bagged). length r.gens) (map as_bagged bs)))
    (mods ∷ ends mods (map (λ (r : Bagged). length r.mods) (map as_bagged bs)))
    ≡ map bag_of (runs.starts past_bag (gens, mods) bs)
bags-from gens mods [] = refl
bags-from gens mods (b ∷ bs) =
    let count = length-map b.gens generator_of in
    ap
    (λ n. bag gens mods
    ∷ zip_with bag ((gens + n) ∷ ends (gens + n) (map (λ (r : Bagged). length r.gens) (map as_bagged bs)))
    ((mods + length b.mods)
    ∷ ends (mods + length b.mods) (map (λ (r : Bagged). length r.mods) (map as_bagged bs)))) count
    ∙ ap (λ rest. bag gens mods ∷ rest) (bags-from (gens + length b.gens) (mods + length b.mods) bs)

gens-as : (bs : List Bag) → flat_map (λ (r : Bagged). r.gens) (map as_bagged bs) ≡ map generator_of (gens_in bs)
gens-as [] = refl
gens-as (b ∷ bs) =
    ap (λ gs. map generator_of b.gens ++ gs) (gens-as bs) ∙ sym (map-append generator_of b.gens (gens_in bs))

mods-as : (bs : List Bag) → flat_map (λ (r : Bagged). r.mods) (map as_bagged bs) ≡ mods_in bs
mods-as [] = refl
mods-as (b ∷ bs) = ap (λ ms. b.mods ++ ms) (mods-as bs)

bag_list-as : (bs : List Bag) → bag_list (map as_bagged bs) ≡ map bag_of (runs.starts past_bag (0, 0) bs)
unfolding bag_list
bag_list-as bs = bags-from 0 0 bs

mod_list-as : (bs : List Bag) → mod_list (map as_bagged bs) ≡ mods_in bs ++ modulator_end ∷ []
unfolding mod_list
mod_list-as bs = ap (λ (ms : List Modulator). ms ++ modulator_end ∷ []) (mods-as bs)

gen_list-as : (bs : List Bag) → gen_list (map as_bagged bs) ≡ map generator_of (gens_in bs ++ (0, 0) ∷ [])
unfolding gen_list
gen_list-as bs =
    ap (λ (gs : List Generator). gs ++ generator_end ∷ []) (gens-as bs)
    ∙ sym (map-append generator_of (gens_in bs) ((0, 0) ∷ []))

-- ---- the tables of a level, and of a bank

module _ {H : Type 0} (at : Level) (xs : List (ZoneOwner H)) where
  pub bags-flat : bag_list (all_bags at xs) ≡ map bag_of (lists_of at xs).bags
  bags-flat = ap bag_list (all-as at xs) ∙ bag_list-as (owned.all_bags (flat_bags at xs))

  pub mods-flat : mod_list (all_bags at xs) ≡ (lists_of at xs).mods
  mods-flat = ap mod_list (all-as at xs) ∙ mod_list-as (owned.all_bags (flat_bags at xs))

  pub gens-flat : gen_list (all_bags at xs) ≡ map generator_of (lists_of at xs).gens
  gens-flat = ap gen_list (all-as at xs) ∙ gen_list-as (owned.all_bags (flat_bags at xs))

pub heads-flat : {H R : Type 0} (h : Headers H R) (xs : List (ZoneOwner H))
    → heads_from h 0 xs ≡ headers_of h xs (lists_of h.level xs).first_bags
heads-flat h xs = heads-as h 0 xs

level-flat : {H R : Type 0} (h : Headers H R) (xs : List (ZoneOwner H))
    → AreOfLists h xs (lists_of h.level xs) (heads_from h 0 xs) (bag_list (all_bags h.level xs))
    (mod_list (all_bags h.level xs)) (gen_list (all_bags h.level xs))
level-flat h xs =
    record {
      heads_are =
          heads-flat h xs;
      bags_are =
          bags-flat h.level xs;
      mods_are = mods-flat h.level xs;
      gens_are = gens-flat h.level xs;
    }

pub tables-flat : (b : Parts) → TablesAreFlat b
unfolding tables_of
tables-flat b =
    record { of_presets = level-flat presets b.presets; of_instruments = level-flat instruments b.instruments }
