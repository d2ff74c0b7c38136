-- Reading bags in sequence.
use Rattle.std.proofs.Common.{◌≡◌, ◌≤◌, ◌+◌, ◌-◌, ◌*◌, ◌==◌, ℕ, Bool, true, false, cond, List, [], ◌∷◌, ◌++◌, length}
use Rattle.std.proofs.Common.{map, drop, filter, is_some, Option, Some, None, Result, refl, sym, ap, subst, ◌∙◌}
use Rattle.std.proofs.Common.{append_assoc, arith}
use Rattle.std.specs.Prelude.{count_by, sum_by, not, nat_lt}
use Rattle.std.specs.List.{AllByRecursion, slice_range, cons_option}
use Rattle.std.specs.Option.{option_map}
use Rattle.std.specs.Result.{IsErrAnd}
use Rattle.std.proofs.lemmas.List.{append-nil, length-take, length-drop, length-map, map-append}
use Rattle.std.proofs.lemmas.List.Elements.{filter_map-append, filter-append}
use Rattle.std.proofs.lemmas.List.Sums.{sum_by-cons, sum_by-append, count_by-le-length}
use Rattle.std.specs.FinMap.{entries, len, len-empty}
use Rattle.generators.specs.Gens.{operator_cmp}
use Rattle.generators.specs.Levels.{target_operator}
use Rattle.generators.specs.declared.level.Level.{Level}
use Rattle.modulators.specs.declared.modulator.Modulator.{Modulator}
use Rattle.hydra_records.specs.declared.zone.Bag.{Bag}
use Rattle.hydra_records.specs.declared.zone.Generator.{Generator}
use Rattle.flat_records.specs.Bags as flat
use Rattle.sf_reader.specs.declared.records.RecordsSoFar.{RecordsSoFar}
use Rattle.sf_base.specs.declared.memory.Failure.{Failure}
use Rattle.bank_parts.specs.declared.parts.GlobalZone.{GlobalZone}
use Rattle.bank_parts.specs.declared.parts.Zone.{Zone}
use Rattle.bank_parts.specs.Bagged.{zone_bag, global_bag, global_bags}
use Rattle.bank_format.specs.declared.fault.ReadFault.{ReadFault}
use Rattle.bank_format.specs.FaultChecks.{Check, check, first_fault, Fails, PassesOrOutOfMemory}
use Rattle.bank_format.specs.Windows.{windows_from, zip_with}
use Rattle.bank_format.specs.Reading.{bagged, bags_in}
use Rattle.bank_format.specs.ReadChecks.{target_check}
use Rattle.bank_format.specs.Zones.{Bagged, target_of, has_target, zone_read, zone_of, zones_read, global_read}
use Rattle.bank_format.specs.Zones.{gens_read, no_global, counted_bags, ignored, dropped, kept, needs_repair, gens_dropped}
use Rattle.bank_format.specs.Zones.{repaired_range_count}
use Rattle.sf_reader.specs.declared.zones.ZoneCounts.{ZoneCounts}
use Rattle.sf_reader.specs.Bags.{counts_read, checks_of_bags, zone_bags, own_bags}
use Rattle.sf_reader.specs.Gens.{gens_read_of}
use Rattle.sf_reader.specs.declared.bag.GensRead.{GensRead}
use Rattle.sf_reader.specs.LaterBags.{counts_with_later, AreFew}
use Rattle.sf_reader.specs.Records.{Appends}
use Rattle.sf_reader.proofs.KeptRecords.{length-kept}
use Rattle.sf_reader.proofs.BagAppends.{adds_none, adds_both, adds_as}
use Rattle.bank_format.proofs.CheckLaws.{first_fault-append}
use Rattle.sf_reader.proofs.CheckLaws.{fails_front, given_by}

abbrev gens_in : Level → Bagged → ℕ
gens_in at r = dropped at r.gens

abbrev ranges_in : Level → Bagged → ℕ
ranges_in at r = count_by needs_repair (kept at r.gens)

-- ---- appended lists of bags

module _ (at : Level) where
  more : (f : Bagged → ℕ) (n : ℕ) (xs ys : List Bagged) → n + sum_by f (xs ++ ys) ≡ n + sum_by f xs + sum_by f ys
  more f n xs ys = omega (arith, sum_by-append f xs ys)

  more_filtered : (f : Bagged → ℕ) (n : ℕ) (xs ys : List Bagged)
      → n + sum_by f (filter (has_target at) (xs ++ ys))
      ≡ n + sum_by f (filter (has_target at) xs) + sum_by f (filter (has_target at) ys)
  more_filtered f n xs ys =
      ap (λ (zs : List Bagged). n + sum_by f zs) (filter-append (has_target at) xs ys)
      ∙ more f n (filter (has_target at) xs) (filter (has_target at) ys)

  counts-append : (c : ZoneCounts) (xs ys : List Bagged)
      → counts_with_later at c (xs ++ ys) ≡ counts_with_later at (counts_with_later at c xs) ys
  counts-append c xs ys =
      let targetless = more (λ x. cond (not (has_target at x)) 1 0) c.zones xs ys in
      let gens = more_filtered (gens_in at) c.gens xs ys in
      let ranges = more_filtered (ranges_in at) c.ranges xs ys in
      λ i. record { zones = targetless i; gens = gens i; ranges = ranges i }

  counts-none : (c : ZoneCounts) → counts_with_later at c [] ≡ c
  counts-none c =
      let targetless : c.zones + 0 ≡ c.zones = omega arith in
      let gens : c.gens + 0 ≡ c.gens = omega arith in
      let ranges : c.ranges + 0 ≡ c.ranges = omega arith in
      λ i. record { zones = targetless i; gens = gens i; ranges = ranges i }

  counts-first : (r : Bagged) (bags : List Bagged)
      → counts_with_later at (counts_read at (r ∷ [])) bags ≡ counts_read at (r ∷ bags)
  unfolding counted_bags ignored gens_dropped repaired_range_count
  counts-first r bags =
      let targetless : 0 + count_by (λ x. not (has_target at x)) bags ≡ count_by (λ x. not (has_target at x)) bags =
      omega arith in
      let gens = sym (sum_by-append (gens_in at) (r ∷ []) (filter (has_target at) bags)) in
      let ranges = sym (sum_by-append (ranges_in at) (r ∷ []) (filter (has_target at) bags)) in
      λ i. record { zones = targetless i; gens = gens i; ranges = ranges i }

  zones-append : (xs ys : List Bagged) → zones_read at (xs ++ ys) ≡ zones_read at xs ++ zones_read at ys
  unfolding zones_read
  zones-append xs ys = filter_map-append (zone_read at) xs ys

  bags-append : (xs ys : List Bagged) → zone_bags at (xs ++ ys) ≡ zone_bags at xs ++ zone_bags at ys
  bags-append xs ys =
      ap (map (zone_bag (target_operator at))) (zones-append xs ys)
      ∙ map-append (zone_bag (target_operator at)) (zones_read at xs) (zones_read at ys)

  own-first : (r : Bagged) (bags : List Bagged) → own_bags at (r ∷ bags) ≡ own_bags at (r ∷ []) ++ zone_bags at bags
  unfolding global_read
  own-first r bags =
      let global = global_bags (global_read at (r ∷ [])) in
      ap (λ (bs : List flat.Bag). global ++ bs) (bags-append (r ∷ []) bags)
      ∙ sym (append_assoc global (zone_bags at (r ∷ [])) (zone_bags at bags))

  checks-append : (n : ℕ) (missing : ReadFault) (xs ys : List Bagged)
      → checks_of_bags at n missing (xs ++ ys) ≡ checks_of_bags at n missing xs ++ checks_of_bags at n missing ys
  checks-append n missing xs ys =
      ap (map (target_check n missing)) (zones-append xs ys)
      ∙ map-append (target_check n missing) (zones_read at xs) (zones_read at ys)

-- ---- no bags

no_counts : (at : Level) → ◌≡◌ {A = ZoneCounts} (record { zones = 0; gens = 0; ranges = 0 }) (counts_read at [])
unfolding counted_bags ignored gens_dropped repaired_range_count
no_counts at = refl

no_steps : (at : Level) (n : ℕ) (missing : ReadFault) → first_fault (checks_of_bags at n missing []) ≡ None
unfolding zones_read
no_steps at n missing = refl

no_zone_bags : (at : Level) → [] ≡ zone_bags at []
unfolding zones_read
no_zone_bags at = refl

-- an empty global zone has no bag
no_global_bags : global_bags no_global ≡ []
no_global_bags =
    let none : len no_global.gens ≡ 0 = len-empty operator_cmp ℕ in
    ap (λ (n : ℕ). cond (n + 0 == 0) [] (global_bag no_global ∷ [])) none

no_own_bags : (at : Level) → own_bags at [] ≡ []
unfolding zones_read global_read
no_own_bags at = ap (λ (bs : List flat.Bag). bs ++ []) no_global_bags

no_bags_added : (at : Level) (r : RecordsSoFar) → Appends r r (own_bags at [])
no_bags_added at r = adds_as r r [] (own_bags at []) (sym (no_own_bags at)) (adds_none r)

-- all bags, if there are none
module _ (at : Level) (n : ℕ) (missing : ReadFault) (all : List Bagged) (is : all ≡ []) where
  pub none_counted : (c : ZoneCounts) → c ≡ record { zones = 0; gens = 0; ranges = 0 }
      → (first_fault (checks_of_bags at n missing all) ≡ None) × (c ≡ counts_read at all)
  none_counted c zero = (
    ap (λ (bs : List Bagged). first_fault (checks_of_bags at n missing bs)) is ∙ no_steps at n missing,
    zero ∙ no_counts at ∙ ap (counts_read at) (sym is),
  )

  pub none_put : (r : RecordsSoFar) → Appends r r (own_bags at all)
  none_put r = adds_as r r (own_bags at []) (own_bags at all) (ap (own_bags at) (sym is)) (no_bags_added at r)

-- ---- one bag, with or without a target

module _ (at : Level) (r : Bagged) where
  abbrev zone_is : Option Zone → List Zone
  zone_is o = cons_option o []

  one_zone : zones_read at (r ∷ []) ≡ zone_is (zone_read at r)
  unfolding zones_read
  one_zone = refl

  no_zone : target_of at r.gens ≡ None → zones_read at (r ∷ []) ≡ []
  no_zone none = one_zone ∙ ap (λ (o : Option ℕ). zone_is (option_map (zone_of at r) o)) none

  the_zone : (t : ℕ) → target_of at r.gens ≡ Some t → zones_read at (r ∷ []) ≡ zone_of at r t ∷ []
  the_zone t some = one_zone ∙ ap (λ (o : Option ℕ). zone_is (option_map (zone_of at r) o)) some

  abbrev global_is : Bool → GlobalZone
  global_is b = cond b no_global (record { gens = gens_read at r.gens; mods = r.mods })

  global_by : (o : Option ℕ) → target_of at r.gens ≡ o → global_read at (r ∷ []) ≡ global_is (is_some o)
  unfolding global_read
  global_by o e = ap (λ (p : Option ℕ). global_is (is_some p)) e

-- ---- the same, from the result of reading its generator records

module _ (at : Level) (r : Bagged) (g : GensRead) (is : g ≡ gens_read_of at r.gens) where
  target_as : (o : Option ℕ) → g.target ≡ o → target_of at r.gens ≡ o
  target_as o e = sym (ap (λ (x : GensRead). x.target) is) ∙ e

  pub steps_none : (n : ℕ) (missing : ReadFault) → g.target ≡ None → checks_of_bags at n missing (r ∷ []) ≡ []
  steps_none n missing none = ap (map (target_check n missing)) (no_zone at r (target_as None none))

  pub steps_one : (n : ℕ) (missing : ReadFault) (t : ℕ) → g.target ≡ Some t
      → check (nat_lt t n) missing ∷ [] ≡ checks_of_bags at n missing (r ∷ [])
  steps_one n missing t some = sym (ap (map (target_check n missing)) (the_zone at r t (target_as (Some t) some)))

  pub target_fails : (n : ℕ) (missing : ReadFault) (t : ℕ) → g.target ≡ Some t
      → {Y Z : Type 0} (view : Y → Z) (value : Z) (res : Result Y (Failure ReadFault)) (e : Failure ReadFault)
      → IsErrAnd res (λ d. d ≡ e) → Fails e (first_fault (check (nat_lt t n) missing ∷ []))
      → PassesOrOutOfMemory view res (checks_of_bags at n missing (r ∷ [])) value
  target_fails n missing t some view value res e err h =
      given_by view value res e (checks_of_bags at n missing (r ∷ [])) err
      (subst (λ (l : List (Check ReadFault)). Fails e (first_fault l)) (steps_one n missing t some) h)

  pub bags_none : g.target ≡ None → [] ≡ zone_bags at (r ∷ [])
  bags_none none = sym (ap (map (zone_bag (target_operator at))) (no_zone at r (target_as None none)))

  pub bags_one : (t : ℕ) → g.target ≡ Some t
      → record { gens = entries (gens_read at r.gens) ++ (target_operator at, t) ∷ []; mods = r.mods } ∷ []
      ≡ zone_bags at (r ∷ [])
  bags_one t some = sym (ap (map (zone_bag (target_operator at))) (the_zone at r t (target_as (Some t) some)))

  -- without a target the first bag is the global zone
  pub own_global : g.target ≡ None
      → global_bags (record { gens = gens_read at r.gens; mods = r.mods }) ≡ own_bags at (r ∷ [])
  own_global none =
      let global = ap global_bags (sym (global_by at r None (target_as None none))) in
      sym (append-nil (global_bags (record { gens = gens_read at r.gens; mods = r.mods })))
      ∙ (λ i. global i ++ bags_none none i)

  -- with a target it is a zone
  pub own_zone : (t : ℕ) → g.target ≡ Some t
      → record { gens = entries (gens_read at r.gens) ++ (target_operator at, t) ∷ []; mods = r.mods } ∷ []
      ≡ own_bags at (r ∷ [])
  own_zone t some =
      let global : [] ≡ global_bags (global_read at (r ∷ [])) =
      sym (ap global_bags (global_by at r (Some t) (target_as (Some t) some)) ∙ no_global_bags) in
      λ i. global i ++ bags_one t some i

  pub first_counts : ◌≡◌ {A = ZoneCounts} (record { zones = 0; gens = g.dropped; ranges = g.ranges })
      (counts_read at (r ∷ []))
  unfolding counted_bags ignored gens_dropped repaired_range_count
  first_counts =
      let gens : g.dropped ≡ gens_dropped at (r ∷ []) =
      omega (arith, sum_by-cons (gens_in at) r [], ap (λ (x : GensRead). x.dropped) is) in
      let ranges : g.ranges ≡ repaired_range_count at (r ∷ []) =
      omega (arith, sum_by-cons (ranges_in at) r [], ap (λ (x : GensRead). x.ranges) is) in
      λ i. record { zones = 0; gens = gens i; ranges = ranges i }

  pub ignored_counts : (c : ZoneCounts) → g.target ≡ None
      → ◌≡◌ {A = ZoneCounts} (record { zones = c.zones + 1; gens = c.gens; ranges = c.ranges })
      (counts_with_later at c (r ∷ []))
  ignored_counts c none =
      let targetless : has_target at r ≡ false = ap is_some (target_as None none) in
      let one : count_by (λ x. not (has_target at x)) (r ∷ []) ≡ 1 = rw targetless refl in
      let none_of : (f : Bagged → ℕ) → sum_by f (filter (has_target at) (r ∷ [])) ≡ 0 = λ f. rw targetless refl in
      let zones : c.zones + 1 ≡ c.zones + count_by (λ x. not (has_target at x)) (r ∷ []) = omega (arith, one) in
      let gens : c.gens ≡ c.gens + sum_by (gens_in at) (filter (has_target at) (r ∷ [])) =
      omega (arith, none_of (gens_in at)) in
      let ranges : c.ranges ≡ c.ranges + sum_by (ranges_in at) (filter (has_target at) (r ∷ [])) =
      omega (arith, none_of (ranges_in at)) in
      λ i. record { zones = zones i; gens = gens i; ranges = ranges i }

  pub zone_counts : (c : ZoneCounts) (t : ℕ) → g.target ≡ Some t
      → ◌≡◌ {A = ZoneCounts} (record { zones = c.zones; gens = c.gens + g.dropped; ranges = c.ranges + g.ranges })
      (counts_with_later at c (r ∷ []))
  zone_counts c t some =
      let targeted : has_target at r ≡ true = ap is_some (target_as (Some t) some) in
      let none : count_by (λ x. not (has_target at x)) (r ∷ []) ≡ 0 = rw targeted refl in
      let one_of_it : (f : Bagged → ℕ) → sum_by f (filter (has_target at) (r ∷ [])) ≡ f r + 0 =
      λ f. rw targeted (sum_by-cons f r []) in
      let zones : c.zones ≡ c.zones + count_by (λ x. not (has_target at x)) (r ∷ []) = omega (arith, none) in
      let gens : c.gens + g.dropped ≡ c.gens + sum_by (gens_in at) (filter (has_target at) (r ∷ [])) =
      omega (arith, ap (λ (x : GensRead). x.dropped) is, one_of_it (gens_in at)) in
      let ranges : c.ranges + g.ranges ≡ c.ranges + sum_by (ranges_in at) (filter (has_target at) (r ∷ [])) =
      omega (arith, ap (λ (x : GensRead). x.ranges) is, one_of_it (ranges_in at)) in
      λ i. record { zones = zones i; gens = gens i; ranges = ranges i }

-- ---- the counts of bags are small if there are few bags with few records

pub length-window : {X : Type 0} (xs : List X) (a b : ℕ) → length (slice_range xs a b) ≤ length xs
length-window xs a b = omega (arith, length-take (b - a) (drop a xs), length-drop a xs)

abbrev AreShort : ℕ → List Bagged → Type 0
AreShort n bags = AllByRecursion (λ (r : Bagged). length r.gens ≤ n) bags

windows_short : (gens : List Generator) (at : ℕ) (is : List ℕ) (mods : List (List Modulator))
    → AreShort (length gens) (zip_with bagged (windows_from gens at is) mods)
windows_short gens at [] mods = tt
windows_short gens at (i ∷ is) [] = tt
windows_short gens at (i ∷ is) (ms ∷ mods) = (length-window gens at i, windows_short gens i is mods)

bags_short : (bags : List Bag) (gens : List Generator) (mods : List Modulator)
    → AreShort (length gens) (bags_in bags gens mods)
unfolding bags_in
bags_short [] gens mods = tt
bags_short (b ∷ bags) gens mods =
    windows_short gens b.gens (map (λ (r : Bag). r.gens) bags)
    (windows_from mods b.mods (map (λ (r : Bag). r.mods) bags))

length-zip_with : (gens : List Generator) (at : ℕ) (is : List ℕ) (mods : List (List Modulator))
    → length (zip_with bagged (windows_from gens at is) mods) ≤ length is
length-zip_with gens at [] mods = omega arith
length-zip_with gens at (i ∷ is) [] = omega arith
length-zip_with gens at (i ∷ is) (ms ∷ mods) = omega (arith, length-zip_with gens i is mods)

length-bags_in : (bags : List Bag) (gens : List Generator) (mods : List Modulator)
    → length (bags_in bags gens mods) ≤ length bags
unfolding bags_in
length-bags_in [] gens mods = omega arith
length-bags_in (b ∷ bags) gens mods =
    omega (
      arith,
      length-zip_with gens b.gens (map (λ (r : Bag). r.gens) bags)
          (windows_from mods b.mods (map (λ (r : Bag). r.mods) bags)),
      length-map bags (λ (r : Bag). r.gens),
    )

module _ (f : Bagged → ℕ) (within : (r : Bagged) → f r ≤ length r.gens) (n : ℕ) (few : n ≤ 65536) where
  sum_filtered : (p : Bagged → Bool) (bags : List Bagged) → AreShort n bags
      → sum_by f (filter p bags) ≤ 65536 * length bags
  sum_filtered p [] short = omega arith
  sum_filtered p (r ∷ bags) short =
      let rest = sum_filtered p bags short.1 in
      elim (p r) as (λ b. sum_by f (cond b (r ∷ filter p bags) (filter p bags)) ≤ 65536 * length (r ∷ bags)) [
        | true ↦ omega (arith, rest, sum_by-cons f r (filter p bags), within r, short.0, few)
        | false ↦ omega (arith, rest)
      ]

  sum_looked_at : (at : Level) (bags : List Bagged) → AreShort n bags
      → sum_by f (counted_bags at bags) ≤ 65536 * length bags
  unfolding counted_bags
  sum_looked_at at [] short = omega arith
  sum_looked_at at (r ∷ bags) short =
      omega (
        arith,
        sum_filtered (has_target at) bags short.1,
        sum_by-cons f r (filter (has_target at) bags),
        within r,
        short.0,
        few,
      )

ranges_within : (at : Level) (r : Bagged) → ranges_in at r ≤ length r.gens
ranges_within at r = omega (arith, count_by-le-length needs_repair (kept at r.gens), length-kept at r.gens)

gens_within : (at : Level) (r : Bagged) → gens_in at r ≤ length r.gens
gens_within at r = omega arith

length-ignored : (at : Level) (bags : List Bagged) → ignored at bags ≤ length bags
unfolding ignored
length-ignored at [] = omega arith
length-ignored at (r ∷ bags) = omega (arith, count_by-le-length (λ x. not (has_target at x)) bags)

pub few_in_all : (at : Level) (bags : List Bag) (gens : List Generator) (mods : List Modulator) → length bags ≤ 65536
    → length gens ≤ 65536 → AreFew (counts_read at (bags_in bags gens mods))
unfolding gens_dropped repaired_range_count
few_in_all at bags gens mods few_bags few_gens =
    let all = bags_in bags gens mods in
    let short = bags_short bags gens mods in
    let n = length-bags_in bags gens mods in
    record {
      zones = omega (arith, length-ignored at all, n, few_bags);
      gens =
          omega
          (arith, sum_looked_at (gens_in at) (gens_within at) (length gens) few_gens at all short, n, few_bags);
      ranges =
          omega (
            arith,
            sum_looked_at (ranges_in at) (ranges_within at) (length gens) few_gens at all short,
            n,
            few_bags,
          );
    }

-- ---- the bags of a table

module _ (gens : List Generator) (mods : List Modulator) where
  -- the bag between one record and the next
  abbrev pub bag_of : Bag → Bag → Bagged
  bag_of start end = bagged (slice_range gens start.gens end.gens) (slice_range mods start.mods end.mods)

  pub bags_in-cons : (start end : Bag) (others : List Bag)
      → bags_in (start ∷ end ∷ others) gens mods ≡ bag_of start end ∷ bags_in (end ∷ others) gens mods
  unfolding bags_in
  bags_in-cons start end others = refl

  pub bags_in-one : (start : Bag) → bags_in (start ∷ []) gens mods ≡ []
  unfolding bags_in
  bags_in-one start = refl

  pub bags_in-none : bags_in [] gens mods ≡ []
  unfolding bags_in
  bags_in-none = refl

  -- the next bag
  pub next_bag : (start end : Bag) (remaining others : List Bag) (g : List Generator) (m : List Modulator)
      → remaining ≡ end ∷ others
      → g ≡ slice_range gens start.gens end.gens → m ≡ slice_range mods start.mods end.mods
      → bags_in (start ∷ remaining) gens mods ≡ bagged g m ∷ bags_in (end ∷ others) gens mods
  next_bag start end remaining others g m is gs ms =
      ap (λ (bs : List Bag). bags_in (start ∷ bs) gens mods) is ∙ bags_in-cons start end others
      ∙ (λ i. bagged (sym gs i) (sym ms i) ∷ bags_in (end ∷ others) gens mods)

-- ---- the loop over bags

module _ (at : Level) (targets : ℕ) (missing : ReadFault) where
  abbrev checks : List Bagged → List (Check ReadFault)
  checks = checks_of_bags at targets missing

  -- the counts and records so far, continued by the remaining bags, are those of all bags, and the remaining targets
  -- determine the fault
  pub record Remaining (old now : RecordsSoFar) (counts : ZoneCounts) (remaining all : List Bagged) : Type 0 where
    pub counts_are : counts_with_later at counts remaining ≡ counts_read at all
    pub steps_are : first_fault (checks remaining) ≡ first_fault (checks all)
    pub bags_are : (end : RecordsSoFar) → Appends now end (zone_bags at remaining) → Appends old end (own_bags at all)

  -- after the first bag
  pub first_left : (old now : RecordsSoFar) (counts : ZoneCounts) (r : Bagged) (remaining all : List Bagged) → all ≡ r ∷ remaining
      → first_fault (checks (r ∷ [])) ≡ None → counts ≡ counts_read at (r ∷ []) → Appends old now (own_bags at (r ∷ []))
      → Remaining old now counts remaining all
  first_left old now counts r remaining all is holds counted put = record {
    counts_are =
        ap (λ (c : ZoneCounts). counts_with_later at c remaining) counted ∙ counts-first at r remaining
        ∙ ap (counts_read at) (sym is);
    steps_are =
        sym (first_fault-append (checks (r ∷ [])) (checks remaining) holds)
        ∙ ap first_fault (sym (checks-append at targets missing (r ∷ []) remaining))
        ∙ ap (λ (bs : List Bagged). first_fault (checks bs)) (sym is);
    bags_are =
        λ end rest.
        adds_as old end (own_bags at (r ∷ []) ++ zone_bags at remaining) (own_bags at all)
        (sym (own-first at r remaining) ∙ ap (own_bags at) (sym is))
        (adds_both old now end (own_bags at (r ∷ [])) (zone_bags at remaining) put rest);
  }

  -- the fault of the first bag is the fault of all
  pub first_fails : (e : Failure ReadFault) (r : Bagged) (remaining all : List Bagged) → all ≡ r ∷ remaining
      → Fails e (first_fault (checks (r ∷ []))) → Fails e (first_fault (checks all))
  first_fails e r remaining all is h =
      subst (λ (l : List (Check ReadFault)). Fails e (first_fault l))
      (sym (checks-append at targets missing (r ∷ []) remaining) ∙ ap checks (sym is))
      (fails_front e (checks (r ∷ [])) (checks remaining) h)

  module _ (old now : RecordsSoFar) (counts : ZoneCounts) (r : Bagged) (rest remaining all : List Bagged) (is : remaining ≡ r ∷ rest)
      (so_far : Remaining old now counts remaining all) where
    checks-next : first_fault (checks (r ∷ []) ++ checks rest) ≡ first_fault (checks all)
    checks-next =
        ap first_fault (sym (checks-append at targets missing (r ∷ []) rest))
        ∙ ap (λ (bs : List Bagged). first_fault (checks bs)) (sym is) ∙ so_far.steps_are

    -- after a later bag
    pub later_left : (new : RecordsSoFar) (more : ZoneCounts) → first_fault (checks (r ∷ [])) ≡ None
        → more ≡ counts_with_later at counts (r ∷ []) → Appends now new (zone_bags at (r ∷ []))
        → Remaining old new more rest all
    later_left new more holds counted put = record {
      counts_are =
          ap (λ (c : ZoneCounts). counts_with_later at c rest) counted ∙ sym (counts-append at counts (r ∷ []) rest)
          ∙ ap (counts_with_later at counts) (sym is) ∙ so_far.counts_are;
      steps_are = sym (first_fault-append (checks (r ∷ [])) (checks rest) holds) ∙ checks-next;
      bags_are = λ end others. so_far.bags_are end
          (adds_as now end (zone_bags at (r ∷ []) ++ zone_bags at rest) (zone_bags at remaining)
          (sym (bags-append at (r ∷ []) rest) ∙ ap (zone_bags at) (sym is))
          (adds_both now new end (zone_bags at (r ∷ [])) (zone_bags at rest) put others));
    }

    pub later_fails : (e : Failure ReadFault) → Fails e (first_fault (checks (r ∷ [])))
        → Fails e (first_fault (checks all))
    later_fails e h = subst (Fails e) checks-next (fails_front e (checks (r ∷ [])) (checks rest) h)

  -- after the last bag
  module _ (old now : RecordsSoFar) (counts : ZoneCounts) (remaining all : List Bagged) (is : remaining ≡ [])
      (so_far : Remaining old now counts remaining all) where
    pub all_counted : counts ≡ counts_read at all
    all_counted = sym (counts-none at counts) ∙ ap (counts_with_later at counts) (sym is) ∙ so_far.counts_are

    pub all_hold : first_fault (checks all) ≡ None
    all_hold =
        sym so_far.steps_are ∙ ap (λ (bs : List Bagged). first_fault (checks bs)) is ∙ no_steps at targets missing

    pub all_put : Appends old now (own_bags at all)
    all_put =
        so_far.bags_are now
        (adds_as now now [] (zone_bags at remaining) (no_zone_bags at ∙ ap (zone_bags at) (sym is)) (adds_none now))

-- the counts so far are at most those of all bags
pub few_so_far : (at : Level) (counts : ZoneCounts) (remaining all : List Bagged)
    → counts_with_later at counts remaining ≡ counts_read at all → AreFew (counts_read at all) → AreFew counts
few_so_far at counts remaining all so_far few =
    let zones = ap (λ (c : ZoneCounts). c.zones) so_far in
    let dropped = ap (λ (c : ZoneCounts). c.gens) so_far in
    let ranges = ap (λ (c : ZoneCounts). c.ranges) so_far in
    record {
      zones =
          omega (arith, zones, few.zones);
      gens =
          omega (arith, dropped, few.gens);
      ranges = omega (arith, ranges, few.ranges);
    }
