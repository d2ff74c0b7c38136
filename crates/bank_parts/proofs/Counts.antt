-- Numbers of records.
use Rattle.std.proofs.Common.{◌≡◌, ◌+◌, ◌==◌, ◌↔◌, ◌<◌, ◌^◌, ℕ, zero, suc, Bool, true, false, IsTrue, true≢false}
use Rattle.std.proofs.Common.{List, [], ◌∷◌, length, take, slice_get, Some, refl, sym, ap, ◌∙◌, arith}
use Rattle.std.specs.Prelude.{sum_by, min, if◌then◌else◌}
use Rattle.std.proofs.lemmas.Bool.Decides.{nat_tests}
use Rattle.std.specs.FinMap.{empty, len, len-empty, empty_of_len}
use Rattle.std.proofs.Math.Nat.{min-eq_left}
use Rattle.std.proofs.lemmas.Bool.{eq-eqb, ne_eqb}
use Rattle.std.proofs.lemmas.List.Sums.{sum_by-cons}
use Rattle.generators.specs.Gens.{Gens, operator_cmp}
use Rattle.modulators.specs.declared.modulator.Modulator.{Modulator}
use Rattle.bank_parts.specs.declared.counting.Records.{Records}
use Rattle.bank_parts.specs.declared.parts.GlobalZone.{GlobalZone}
use Rattle.bank_parts.specs.declared.parts.Zone.{Zone}
use Rattle.bank_parts.specs.Valid.{global_count}
use Rattle.bank_parts.specs.Counts.{records_of_zone, records_of_global, records_total, records_sum, counted}
use Rattle.bank_parts.specs.Counts.{all_counted}

-- a place holds nothing if both lists are empty
pub none_held : (gens : Gens) (mods : List Modulator) → gens ≡ empty → (mods ≡ []) ↔ (len gens + length mods ≡ 0)
none_held gens mods e =
    let none : len gens ≡ 0 = rw e (len-empty operator_cmp ℕ) in
    (λ m. rw m (omega (arith, none)), λ n. no_mods mods (omega (arith, n)))
  where
    no_mods : (xs : List Modulator) → length xs ≡ 0 → xs ≡ []
    no_mods [] h = refl
    no_mods (x ∷ xs) h = absurd (omega (arith, h))

pub none_left : (gens : Gens) (mods : List Modulator) → len gens + length mods ≡ 0 → gens ≡ empty
none_left gens mods n = empty_of_len gens (omega (arith, n))

-- a test that is true exactly for 0
pub decides_zero : (t : Bool) (n : ℕ) → IsTrue t ↔ (n ≡ 0) → t ≡ (n == 0)
decides_zero true n h = sym (eq-eqb n 0 (h.0 refl))
decides_zero false n h = sym (ne_eqb n 0 (λ e. true≢false (sym (h.1 e))))

-- ---- one record more

counts_of_one_more : {X : Type 0} (f : X → ℕ) (xs : List X) (i : ℕ) (x : X) → slice_get xs i ≡ Some x
    → sum_by f (take i xs) + f x ≡ sum_by f (take (suc i) xs)
counts_of_one_more f [] i x e = absurd cc
counts_of_one_more f (y ∷ ys) zero x e =
    let same : f y ≡ f x = ap f cc in
    let sum = sum_by-cons f y [] in
    omega (arith, same, sum)
counts_of_one_more f (y ∷ ys) (suc i) x e =
    let rest = counts_of_one_more f ys i x e in
    let before = sum_by-cons f y (take i ys) in
    let after = sum_by-cons f y (take (suc i) ys) in
    omega (arith, rest, before, after)

count_more : {X : Type 0} (xs : List X) (i : ℕ) (x : X) → slice_get xs i ≡ Some x
    → length (take i xs) + 1 ≡ length (take (suc i) xs)
count_more [] i x e = absurd cc
count_more (y ∷ ys) zero x e = refl
count_more (y ∷ ys) (suc i) x e = let rest = count_more ys i x e in omega (arith, rest)

pub total_more : {X : Type 0} (f : X → Records) (xs : List X) (i : ℕ) (x : X) → slice_get xs i ≡ Some x
    → records_sum (records_total f (take i xs)) (f x) ≡ records_total f (take (suc i) xs)
total_more f xs i x e = λ k. record {
  zones = counts_of_one_more (λ y. (f y).zones) xs i x e k;
  gens = counts_of_one_more (λ y. (f y).gens) xs i x e k;
  mods = counts_of_one_more (λ y. (f y).mods) xs i x e k;
}

-- ---- saturated sums

pub counted_same : (n : ℕ) → n < 2 ^ 64 → counted n ≡ n
counted_same n h = min-eq_left (omega (arith, h))

-- ---- the records of a place

pub zone_is : (z : Zone) (g m : ℕ) → g ≡ len z.gens → m ≡ length z.mods → m < 2 ^ 64
    → record { zones = 1; gens = counted (g + 1); mods = m } ≡ all_counted (records_of_zone z)
zone_is z g m gens mods small =
    let one : 1 ≡ counted 1 = sym (counted_same 1 (omega arith)) in
    let few : m ≡ counted (length z.mods) = sym (counted_same m small) ∙ ap counted mods in
    λ i. record { zones = one i; gens = counted (gens i + 1); mods = few i }

one_if_any : (n : ℕ) → min (counted n) 1 ≡ counted (if n == 0 then 0 else 1)
one_if_any zero = grind (arith, nat_tests)
one_if_any (suc n) = grind (arith, nat_tests)

pub global_is : (x : GlobalZone) (g m : ℕ) → g ≡ len x.gens → m ≡ length x.mods → g < 2 ^ 64 → m < 2 ^ 64
    → record { zones = min (counted (g + m)) 1; gens = g; mods = m } ≡ all_counted (records_of_global x)
global_is x g m gens mods small few =
    let gens_are : g ≡ counted (len x.gens) = sym (counted_same g small) ∙ ap counted gens in
    let mods_are : m ≡ counted (length x.mods) = sym (counted_same m few) ∙ ap counted mods in
    let zones : min (counted (g + m)) 1 ≡ counted (global_count x) =
    (λ i. min (counted (gens i + mods i)) 1) ∙ one_if_any (len x.gens + length x.mods) in
    λ i. record { zones = zones i; gens = gens_are i; mods = mods_are i }
