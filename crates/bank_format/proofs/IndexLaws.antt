-- The indexes in the tables of a bank are sums over the bank's own lists.
use Rattle.std.proofs.Common.{◌≡◌, ◌≤◌, ◌+◌, ◌∙◌, ℕ, zero, suc, List, [], ◌∷◌, ◌++◌, length, map, take, drop}
use Rattle.std.proofs.Common.{slice_get, Some, refl, sym, ap, append_assoc, arith}
use Rattle.std.specs.Prelude.{flat_map}
use Rattle.std.proofs.lemmas.Grind.{flat_map-append}
use Rattle.std.proofs.lemmas.List.{length-append, map-append, take-append-drop}
use Rattle.std.proofs.lemmas.List.Sums.{sum_by-cons}
use Rattle.generators.specs.declared.level.Level.{Level}
use Rattle.generators.specs.declared.level.Level.TheVariants as level
use Rattle.bank_parts.specs.Valid.{owner_total, zone_count, gen_count, mod_count}
use Rattle.bank_parts.specs.declared.parts.GlobalZone.{GlobalZone}
use Rattle.bank_parts.specs.declared.parts.Zone.{Zone}
use Rattle.bank_parts.specs.declared.parts.ZoneOwner.{ZoneOwner}
use Rattle.bank_parts.specs.declared.parts.Parts.{Parts}
use Rattle.bank_format.specs.Windows.{ends, starts, zip_with}
use Rattle.bank_format.specs.Zones.{Bagged, bags_written, global_written, zone_written}
use Rattle.bank_format.specs.Tables.{bag, bag_list, bags_of, presets, instruments, tables_of}
use Rattle.bank_format.specs.Indexes.{AreSums, IndexesAreSums}
use Rattle.bank_format.proofs.WindowLaws.{sizes, total, length-starts}
use Rattle.bank_format.proofs.TableLaws.{gens_in_bag, mods_in_bag, head_indexes}
use Rattle.bank_format.proofs.IndexChecks.{length-bag_list}
use Rattle.bank_format.proofs.FitLaws.{sizes-append, total-by, length-by, Holds, holds}

-- ---- bags

-- the bag after these, when the generator and modulator indexes start at g and m
bag_after : (xs ys : List Bagged) (g m : ℕ)
    → slice_get
    (zip_with bag (g ∷ ends g (sizes gens_in_bag (xs ++ ys))) (m ∷ ends m (sizes mods_in_bag (xs ++ ys))))
    (length xs)
    ≡ Some (bag (g + total (sizes gens_in_bag xs)) (m + total (sizes mods_in_bag xs)))
bag_after [] ys g m =
    let gens : g ≡ g + 0 = omega arith in
    let mods : m ≡ m + 0 = omega arith in
    λ i. Some (bag (gens i) (mods i))
bag_after (x ∷ xs) ys g m =
    let gens : g + length x.gens + total (sizes gens_in_bag xs) ≡ g + total (sizes gens_in_bag (x ∷ xs)) =
    omega arith in
    let mods : m + length x.mods + total (sizes mods_in_bag xs) ≡ m + total (sizes mods_in_bag (x ∷ xs)) =
    omega arith in
    bag_after xs ys (g + length x.gens) (m + length x.mods) ∙ λ i. Some (bag (gens i) (mods i))

-- the same, by the numbers of generators and modulators of these bags
split_holds : (bags xs ys : List Bagged) (zones gens mods : ℕ) → xs ++ ys ≡ bags → Holds xs zones gens mods
    → slice_get (bag_list bags) zones ≡ Some (bag gens mods)
unfolding bag_list
split_holds bags xs ys zones gens mods all h =
    let hg = h.gens_are in
    let hm = h.mods_are in
    let gens_are : 0 + total (sizes gens_in_bag xs) ≡ gens = omega (arith, hg) in
    let mods_are : 0 + total (sizes mods_in_bag xs) ≡ mods = omega (arith, hm) in
    ap (λ (l : List Bagged). slice_get (bag_list l) zones) (sym all)
    ∙ ap (slice_get (bag_list (xs ++ ys))) (sym h.zones_are)
    ∙ bag_after xs ys 0 0
    ∙ λ i. Some (bag (gens_are i) (mods_are i))

both_hold : (xs ys : List Bagged) (z g m z2 g2 m2 : ℕ) → Holds xs z g m → Holds ys z2 g2 m2
    → Holds (xs ++ ys) (z + z2) (g + g2) (m + m2)
both_hold xs ys z g m z2 g2 m2 h k =
    let hz = h.zones_are in let hg = h.gens_are in let hm = h.mods_are in
    let kz = k.zones_are in let kg = k.gens_are in let km = k.mods_are in
    record {
      zones_are = omega (arith, length-append xs ys, hz, kz);
      gens_are = omega (arith, sizes-append gens_in_bag xs ys, hg, kg);
      mods_are = omega (arith, sizes-append mods_in_bag xs ys, hm, km);
    }

-- the bags of the first zones, then those of the others
bags-split : (at : Level) (g : GlobalZone) (zs : List Zone) (j : ℕ)
    → bags_written at g (take j zs) ++ map (zone_written at) (drop j zs) ≡ bags_written at g zs
unfolding bags_written
bags-split at g zs j =
    append_assoc (global_written g) (map (zone_written at) (take j zs)) (map (zone_written at) (drop j zs))
    ∙ ap (λ (l : List Bagged). global_written g ++ l)
    (sym (map-append (zone_written at) (take j zs) (drop j zs)) ∙ ap (map (zone_written at)) (take-append-drop j zs))

drop-found : {X : Type 0} (xs : List X) (i : ℕ) (x : X) → slice_get xs i ≡ Some x → drop i xs ≡ x ∷ drop (suc i) xs
drop-found [] i x e = absurd cc
drop-found (y ∷ ys) zero x e = let same : y ≡ x = cc in ap (λ z. z ∷ ys) same
drop-found (y ∷ ys) (suc i) x e = drop-found ys i x e

-- ---- the presets, or the instruments

module _ {H : Type 0} (at : Level) where
  abbrev own_bags : ZoneOwner H → List Bagged
  own_bags o = bags_of at o

  all_hold : (os : List (ZoneOwner H))
      → Holds (flat_map own_bags os) (owner_total zone_count os) (owner_total gen_count os)
      (owner_total mod_count os)
  all_hold os = record {
    zones_are =
        length-by own_bags (λ (o : ZoneOwner H). zone_count o.global o.zones)
        (λ (o : ZoneOwner H). (holds at o.global o.zones).zones_are) os;
    gens_are =
        total-by gens_in_bag own_bags (λ (o : ZoneOwner H). gen_count o.global o.zones)
        (λ (o : ZoneOwner H). (holds at o.global o.zones).gens_are) os;
    mods_are =
        total-by mods_in_bag own_bags (λ (o : ZoneOwner H). mod_count o.global o.zones)
        (λ (o : ZoneOwner H). (holds at o.global o.zones).mods_are) os;
  }

  index_at : (i from : ℕ) (os : List (ZoneOwner H)) → i ≤ length os
      → slice_get (from ∷ ends from (sizes own_bags os)) i ≡ Some (from + owner_total zone_count (take i os))
  index_at zero from os le = let e : from ≡ from + 0 = omega arith in ap Some e
  index_at (suc i) from [] le = absurd (omega (arith, le))
  index_at (suc i) from (o ∷ os) le =
      let one = (holds at o.global o.zones).zones_are in
      let sum = sum_by-cons (λ (o : ZoneOwner H). zone_count o.global o.zones) o (take i os) in
      let e : from + length (own_bags o) + owner_total zone_count (take i os)
      ≡ from + owner_total zone_count (o ∷ take i os) =
      omega (arith, one, sum) in
      index_at i (from + length (own_bags o)) os (omega (arith, le)) ∙ ap Some e

  split : (i : ℕ) (os : List (ZoneOwner H))
      → flat_map own_bags (take i os) ++ flat_map own_bags (drop i os) ≡ flat_map own_bags os
  split i os = sym (flat_map-append own_bags (take i os) (drop i os)) ∙ ap (flat_map own_bags) (take-append-drop i os)

  -- the bags of the first i owners, and of the first j zones of owner i
  split-zones : (i j : ℕ) (os : List (ZoneOwner H)) (o : ZoneOwner H) → slice_get os i ≡ Some o
      → (flat_map own_bags (take i os) ++ bags_written at o.global (take j o.zones))
      ++ (map (zone_written at) (drop j o.zones) ++ flat_map own_bags (drop (suc i) os))
      ≡ flat_map own_bags os
  split-zones i j os o e =
      let before = flat_map own_bags (take i os) in
      let own = bags_written at o.global (take j o.zones) in
      let rest = map (zone_written at) (drop j o.zones) in
      let later = flat_map own_bags (drop (suc i) os) in
      append_assoc before own (rest ++ later)
      ∙ ap (λ (l : List Bagged). before ++ l)
      (sym (append_assoc own rest later) ∙ ap (λ (l : List Bagged). l ++ later) (bags-split at o.global o.zones j))
      ∙ ap (λ (l : List (ZoneOwner H)). before ++ flat_map own_bags l) (sym (drop-found os i o e))
      ∙ split i os

  pub sums : (os : List (ZoneOwner H)) (first_bags : List ℕ) → first_bags ≡ starts (sizes own_bags os)
      → AreSums os first_bags (bag_list (flat_map own_bags os))
  sums os first_bags e = record {
    header_count = let l = length-starts own_bags os in ap length e ∙ omega (arith, l);
    bag_count =
        let l = length-bag_list (flat_map own_bags os) in let z = (all_hold os).zones_are in omega (arith, l, z);
    headers =
        λ i le. let sum : 0 + owner_total zone_count (take i os) ≡ owner_total zone_count (take i os) =
        omega arith in ap (λ is. slice_get is i) e ∙ index_at i 0 os le ∙ ap Some sum;
    at_start =
        λ i le.
        split_holds (flat_map own_bags os) (flat_map own_bags (take i os)) (flat_map own_bags (drop i os)) _ _ _
        (split i os) (all_hold (take i os));
    at_zone = λ i j o found lt.
        split_holds (flat_map own_bags os) (flat_map own_bags (take i os) ++ bags_written at o.global (take j o.zones))
        (map (zone_written at) (drop j o.zones) ++ flat_map own_bags (drop (suc i) os)) _ _ _
        (split-zones i j os o found)
        (both_hold _ _ _ _ _ _ _ _ (all_hold (take i os)) (holds at o.global (take j o.zones)));
  }

pub indexes-sum : (b : Parts) → IndexesAreSums b
unfolding tables_of
indexes-sum b = record {
  presets = sums level.Preset b.presets _ (head_indexes presets (λ n h. refl) (λ n. refl) 0 b.presets);
  instruments =
      sums level.Inst b.instruments _ (head_indexes instruments (λ n h. refl) (λ n. refl) 0 b.instruments);
}
