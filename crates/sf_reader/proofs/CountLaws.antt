-- Upper bounds on what is dropped or repaired, so that the counts fit in 64 bits.
use Rattle.std.proofs.Common.{◌≡◌, ◌≤◌, ◌+◌, ◌-◌, ◌*◌, ℕ, zero, suc, Bool, true, false, cond, List, [], ◌∷◌}
use Rattle.std.proofs.Common.{length, take, drop, map, subst, sym, ap, arith}
use Rattle.std.specs.Prelude.{sum_by, count_by, filter, not}
use Rattle.std.specs.List.{AllByRecursion, slice_range}
use Rattle.std.proofs.lemmas.List.{length-take, length-drop, length-map}
use Rattle.std.proofs.lemmas.List.Sums.{sum_by-cons, count_by-le-length, length-filter}
use Rattle.generators.specs.declared.level.Level.{Level}
use Rattle.modulators.specs.declared.modulator.Modulator.{Modulator}
use Rattle.hydra_records.specs.declared.zone.Bag.{Bag}
use Rattle.hydra_records.specs.declared.zone.Generator.{Generator}
use Rattle.bank_format.specs.Windows.{windows, windows_from, zip_with}
use Rattle.bank_format.specs.Zones.{Bagged, has_target, kept}
use Rattle.bank_format.specs.Zones.{needs_repair, dropped, counted_bags, ignored, gens_dropped, repaired_range_count}
use Rattle.bank_format.specs.Reading.{bagged, bags_in}
use Rattle.sf_reader.specs.declared.zones.ZoneCounts.{ZoneCounts}
use Rattle.sf_reader.specs.Owners.{AreSmall, added, counts_over}
use Rattle.sf_reader.proofs.WindowLaws.{length-windows}
use Rattle.sf_reader.proofs.KeptRecords.{length-kept}

-- ---- sums

sum_by-within : {X : Type 0} (f : X → ℕ) (most : ℕ) (xs : List X) → AllByRecursion (λ x. f x ≤ most) xs
    → sum_by f xs ≤ length xs * most
sum_by-within f most [] h = omega arith
sum_by-within f most (x ∷ xs) h =
    let rest = sum_by-within f most xs h.1 in
    subst (λ (n : ℕ). n ≤ suc (length xs) * most) (sym (sum_by-cons f x xs)) (omega (arith, rest, h.0))

-- ---- a property of all elements

all_of : {X : Type 0} (P Q : X → Type 0) (xs : List X) → ((x : X) → P x → Q x) → AllByRecursion P xs
    → AllByRecursion Q xs
all_of P Q [] f h = tt
all_of P Q (x ∷ xs) f h = (f x h.0, all_of P Q xs f h.1)

all_of_take : {X : Type 0} (P : X → Type 0) (n : ℕ) (xs : List X) → AllByRecursion P xs → AllByRecursion P (take n xs)
all_of_take P zero xs h = tt
all_of_take P (suc n) [] h = tt
all_of_take P (suc n) (x ∷ xs) h = (h.0, all_of_take P n xs h.1)

all_left : {X : Type 0} (P : X → Type 0) (n : ℕ) (xs : List X) → AllByRecursion P xs → AllByRecursion P (drop n xs)
all_left P zero xs h = h
all_left P (suc n) [] h = tt
all_left P (suc n) (x ∷ xs) h = all_left P n xs h.1

-- ---- one bag

-- at most as many generators as a list has records
abbrev IsShort : Bagged → Type 0
IsShort r = length r.gens ≤ 65536

dropped-few : (at : Level) (r : Bagged) → IsShort r → dropped at r.gens ≤ 65536
dropped-few at r h = omega (arith, h)

repaired-few : (at : Level) (r : Bagged) → IsShort r → count_by needs_repair (kept at r.gens) ≤ 65536
repaired-few at r h = omega (arith, h, count_by-le-length needs_repair (kept at r.gens), length-kept at r.gens)

-- ---- the bags of one header

passed_if : {X : Type 0} (P : X → Type 0) (b : Bool) (x : X) (xs : List X) → P x → AllByRecursion P xs
    → AllByRecursion P (cond b (x ∷ xs) xs)
passed_if P true x xs h k = (h, k)
passed_if P false x xs h k = k

all_passed : {X : Type 0} (P : X → Type 0) (p : X → Bool) (xs : List X) → AllByRecursion P xs
    → AllByRecursion P (filter p xs)
all_passed P p [] h = tt
all_passed P p (x ∷ xs) h = passed_if P (p x) x (filter p xs) h.0 (all_passed P p xs h.1)

all_looked_at : (at : Level) (bags : List Bagged) → AllByRecursion IsShort bags
    → AllByRecursion IsShort (counted_bags at bags)
unfolding counted_bags
all_looked_at at [] h = tt
all_looked_at at (r ∷ bags) h = (h.0, all_passed IsShort (has_target at) bags h.1)

length-counted_bags : (at : Level) (bags : List Bagged) → length (counted_bags at bags) ≤ length bags
unfolding counted_bags
length-counted_bags at [] = omega arith
length-counted_bags at (r ∷ bags) =
    omega (arith, length-filter (has_target at) bags, count_by-le-length (has_target at) bags)

-- at most as many bags as a list has records, each short
record IsFew (bags : List Bagged) : Type 0 where
  few : length bags ≤ 65536
  short : AllByRecursion IsShort bags

ignored-few : (at : Level) (bags : List Bagged) → IsFew bags → ignored at bags ≤ 4294967296
unfolding ignored
ignored-few at [] h = omega arith
ignored-few at (r ∷ bags) h = omega (arith, h.few, count_by-le-length (λ x. not (has_target at x)) bags)

gens_dropped-few : (at : Level) (bags : List Bagged) → IsFew bags → gens_dropped at bags ≤ 4294967296
unfolding gens_dropped
gens_dropped-few at bags h =
    let short =
    all_of IsShort (λ r. dropped at r.gens ≤ 65536) (counted_bags at bags) (dropped-few at)
    (all_looked_at at bags h.short) in
    omega (
      arith,
      h.few,
      length-counted_bags at bags,
      sum_by-within (λ (r : Bagged). dropped at r.gens) 65536 (counted_bags at bags) short,
    )

repaired_range_count-few : (at : Level) (bags : List Bagged) → IsFew bags → repaired_range_count at bags ≤ 4294967296
unfolding repaired_range_count
repaired_range_count-few at bags h =
    let short =
    all_of IsShort (λ r. count_by needs_repair (kept at r.gens) ≤ 65536) (counted_bags at bags) (repaired-few at)
    (all_looked_at at bags h.short) in
    omega (
      arith,
      h.few,
      length-counted_bags at bags,
      sum_by-within (λ (r : Bagged). count_by needs_repair (kept at r.gens)) 65536 (counted_bags at bags) short,
    )

-- ---- all headers

length-slice : {X : Type 0} (xs : List X) (from to : ℕ) → length (slice_range xs from to) ≤ length xs
length-slice xs from to = omega (arith, length-take (to - from) (drop from xs), length-drop from xs)

windows_from-short : {X : Type 0} (table : List X) (at : ℕ) (is : List ℕ)
    → AllByRecursion (λ w. length w ≤ length table) (windows_from table at is)
windows_from-short table at [] = tt
windows_from-short table at (i ∷ is) = (length-slice table at i, windows_from-short table i is)

windows-short : {X : Type 0} (table : List X) (is : List ℕ)
    → AllByRecursion (λ w. length w ≤ length table) (windows table is)
windows-short table [] = tt
windows-short table (i ∷ is) = windows_from-short table i is

zip_with-short : (gs : List (List Generator)) (ms : List (List Modulator))
    → AllByRecursion (λ g. length g ≤ 65536) gs → AllByRecursion IsShort (zip_with bagged gs ms)
zip_with-short [] ms h = tt
zip_with-short (g ∷ gs) [] h = tt
zip_with-short (g ∷ gs) (m ∷ ms) h = (h.0, zip_with-short gs ms h.1)

length-zip_with-first : {X Y Z : Type 0} (f : X → Y → Z) (xs : List X) (ys : List Y)
    → length (zip_with f xs ys) ≤ length xs
length-zip_with-first f [] ys = omega arith
length-zip_with-first f (x ∷ xs) [] = omega arith
length-zip_with-first f (x ∷ xs) (y ∷ ys) = omega (arith, length-zip_with-first f xs ys)

few_bags : (bags : List Bag) (gens : List Generator) (mods : List Modulator) → length bags ≤ 65536
    → length gens ≤ 65536 → IsFew (bags_in bags gens mods)
unfolding bags_in
few_bags bags gens mods few short =
    let gw = windows gens (map (λ (r : Bag). r.gens) bags) in
    let mw = windows mods (map (λ (r : Bag). r.mods) bags) in
    record {
      few =
          omega (
            arith,
            few,
            length-zip_with-first bagged gw mw,
            length-windows gens (map (λ (r : Bag). r.gens) bags),
            length-map bags (λ (r : Bag). r.gens),
          );
      short =
          zip_with-short gw mw
          (all_of (λ w. length w ≤ length gens) (λ w. length w ≤ 65536) gw (λ w h. omega (arith, h, short))
          (windows-short gens (map (λ (r : Bag). r.gens) bags)));
    }

few_slice : (bags : List Bagged) (from to : ℕ) → IsFew bags → IsFew (slice_range bags from to)
few_slice bags from to h =
    record {
      few =
          omega (arith, h.few, length-slice bags from to);
      short =
          all_of_take IsShort (to - from) (drop from bags) (all_left IsShort from bags h.short);
    }

few_windows_from : (bags : List Bagged) (at : ℕ) (is : List ℕ) → IsFew bags
    → AllByRecursion IsFew (windows_from bags at is)
few_windows_from bags at [] h = tt
few_windows_from bags at (i ∷ is) h = (few_slice bags at i h, few_windows_from bags i is h)

few_windows : (bags : List Bagged) (is : List ℕ) → IsFew bags → AllByRecursion IsFew (windows bags is)
few_windows bags [] h = tt
few_windows bags (i ∷ is) h = few_windows_from bags i is h

-- small enough that the sum of two such counts fits in 64 bits
pub record AreFew (c : ZoneCounts) : Type 0 where
  pub zones : c.zones ≤ 281474976710656
  pub gens : c.gens ≤ 281474976710656
  pub ranges : c.ranges ≤ 281474976710656

pub counts-few : {H : Type 0} (at : Level) (first_bag : H → ℕ) (heads : List H) (bags : List Bag)
    (gens : List Generator) (mods : List Modulator)
    → length heads ≤ 65536 → length bags ≤ 65536 → length gens ≤ 65536
    → AreFew (counts_over at (windows (bags_in bags gens mods) (map first_bag heads)))
counts-few at first_bag heads bags gens mods few_heads few short =
    let ws = windows (bags_in bags gens mods) (map first_bag heads) in
    let all = few_windows (bags_in bags gens mods) (map first_bag heads) (few_bags bags gens mods few short) in
    let count : length ws ≤ 65536 =
    omega (
      arith,
      few_heads,
      length-windows (bags_in bags gens mods) (map first_bag heads),
      length-map heads first_bag,
    )
    in
    record {
      zones =
          omega (
            arith,
            count,
            sum_by-within (ignored at) 4294967296 ws
                (all_of IsFew (λ w. ignored at w ≤ 4294967296) ws (ignored-few at) all),
          );
      gens =
          omega (
            arith,
            count,
            sum_by-within (gens_dropped at) 4294967296 ws
                (all_of IsFew (λ w. gens_dropped at w ≤ 4294967296) ws (gens_dropped-few at) all),
          );
      ranges =
          omega (
            arith,
            count,
            sum_by-within (repaired_range_count at) 4294967296 ws
                (all_of IsFew (λ w. repaired_range_count at w ≤ 4294967296) ws (repaired_range_count-few at) all),
          );
    }

pub both-small : (a b : ZoneCounts) → AreFew a → AreFew b → AreSmall (added a b)
both-small a b f g = record {
  zones = omega (arith, f.zones, g.zones);
  gens = omega (arith, f.gens, g.gens);
  ranges = omega (arith, f.ranges, g.ranges);
}

-- parts of a small sum are small
pub part-small : (a b c whole : ZoneCounts) → added a (added b c) ≡ whole → AreFew whole → AreSmall (added a b)
part-small a b c whole e f =
    let zones : a.zones + (b.zones + c.zones) ≡ whole.zones = ap (λ (k : ZoneCounts). k.zones) e in
    let gens : a.gens + (b.gens + c.gens) ≡ whole.gens = ap (λ (k : ZoneCounts). k.gens) e in
    let ranges : a.ranges + (b.ranges + c.ranges) ≡ whole.ranges = ap (λ (k : ZoneCounts). k.ranges) e in
    record {
      zones =
          omega (arith, zones, f.zones);
      gens =
          omega (arith, gens, f.gens);
      ranges = omega (arith, ranges, f.ranges);
    }
