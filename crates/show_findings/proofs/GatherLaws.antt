-- Lists that grow in loops.
use Rattle.std.proofs.Common.{◌≡◌, ◌≤◌, ◌<◌, ℕ, suc, ◌+◌, ◌-◌, List, [], ◌∷◌, ◌++◌, length, drop, get_or, Option, Some}
use Rattle.std.proofs.Common.{None, Bool, true, false, ◌&&◌, ◌||◌, map, refl, sym, ap, ◌∙◌, arith, append_assoc}
use Rattle.std.specs.List.{flat_map, filter_map, cons_option, range_with_len, list_any, list_all}
use Rattle.std.proofs.lemmas.List.{append-nil, drop_all, at_drop_more}
use Rattle.show_findings.specs.Numbers.{numbers}

-- the numbers from k to below n
abbrev pub from : ℕ → ℕ → List ℕ
from k n = range_with_len k (n - k)

pub all_from : (n : ℕ) → numbers n ≡ from 0 n
all_from n = let e : n - 0 ≡ n = omega arith in rw e refl

-- the first of these numbers, and the others
pub from_on : (k n : ℕ) → k < n → from k n ≡ k ∷ from (k + 1) n
from_on k n h = let e : n - k ≡ suc (n - (k + 1)) = omega (arith, h) in rw e refl

module _ {X : Type 0} where
  -- what is still to be added to the list, after another part of it
  pub gathered_more : (old whole now more rest next : List X) → old ++ whole ≡ now ++ (more ++ rest)
      → next ≡ now ++ more → old ++ whole ≡ next ++ rest
  gathered_more old whole now more rest next h e =
      h ∙ sym (append_assoc now more rest) ∙ ap (λ (t : List X). t ++ rest) (sym e)

  pub gathered_all : (old whole now rest : List X) → old ++ whole ≡ now ++ rest → rest ≡ [] → now ≡ old ++ whole
  gathered_all old whole now rest h e = sym (h ∙ ap (λ (t : List X). now ++ t) e ∙ append-nil now)

  with_rest : (o : Option X) (xs : List X) → cons_option o xs ≡ cons_option o [] ++ xs
  with_rest None xs = refl
  with_rest (Some x) xs = refl

  -- ---- options of numbers

  pub options_on : (g : ℕ → Option X) (k n : ℕ) → k < n
      → filter_map g (from k n) ≡ cons_option (g k) [] ++ filter_map g (from (k + 1) n)
  options_on g k n h =
      let e : n - k ≡ suc (n - (k + 1)) = omega (arith, h) in
      rw e (with_rest (g k) (filter_map g (from (k + 1) n)))

  pub options_over : (g : ℕ → Option X) (k n : ℕ) → n ≤ k → filter_map g (from k n) ≡ []
  options_over g k n h = let e : n - k ≡ 0 = omega (arith, h) in rw e refl

  -- the options of the first k numbers are in the list
  abbrev pub Options : (ℕ → Option X) → ℕ → List X → List X → ℕ → Type 0
  Options g n old now k = old ++ filter_map g (numbers n) ≡ now ++ filter_map g (from k n)

  pub options_start : (g : ℕ → Option X) (n : ℕ) (old : List X) → Options g n old old 0
  options_start g n old = ap (λ (ks : List ℕ). old ++ filter_map g ks) (all_from n)

  pub options_more : (g : ℕ → Option X) (n : ℕ) (old now next : List X) (k : ℕ) → k < n
      → next ≡ now ++ cons_option (g k) [] → Options g n old now k → Options g n old next (k + 1)
  options_more g n old now next k lt e h =
      gathered_more old (filter_map g (numbers n)) now (cons_option (g k) []) (filter_map g (from (k + 1) n)) next
      (h ∙ ap (λ (t : List X). now ++ t) (options_on g k n lt)) e

  pub options_all : (g : ℕ → Option X) (n : ℕ) (old now : List X) (k : ℕ) → n ≤ k → Options g n old now k
      → now ≡ old ++ filter_map g (numbers n)
  options_all g n old now k le h =
      gathered_all old (filter_map g (numbers n)) now (filter_map g (from k n)) h (options_over g k n le)

  -- ---- options of members

  -- the options of the first k members are in the list
  abbrev pub Found : {Y : Type 0} → (Y → Option X) → List Y → List X → List X → ℕ → Type 0
  Found g ys old now k = old ++ filter_map g ys ≡ now ++ filter_map g (drop k ys)

  pub found_more : {Y : Type 0} (g : Y → Option X) (ys : List Y) (old now next : List X) (k : ℕ) (y : Y)
      → k < length ys → next ≡ now ++ cons_option (g (get_or ys k y)) [] → Found g ys old now k
      → Found g ys old next (k + 1)
  found_more g ys old now next k y lt e h =
      let rest = filter_map g (drop (k + 1) ys) in
      gathered_more old (filter_map g ys) now (cons_option (g (get_or ys k y)) []) rest next
      (h
      ∙ ap (λ (t : List X). now ++ t) (at_drop_more (filter_map g) ys k y lt ∙ with_rest (g (get_or ys k y)) rest)) e

  pub found_all : {Y : Type 0} (g : Y → Option X) (ys : List Y) (old now : List X) (k : ℕ) → length ys ≤ k
      → Found g ys old now k → now ≡ old ++ filter_map g ys
  found_all g ys old now k le h =
      gathered_all old (filter_map g ys) now (filter_map g (drop k ys)) h (ap (filter_map g) (drop_all k ys le))

  -- options that all have a value
  pub all_some : {Y : Type 0} (f : Y → X) (ys : List Y) → filter_map (λ y. Some (f y)) ys ≡ map f ys
  all_some f [] = refl
  all_some f (y ∷ ys) = ap (λ (t : List X). f y ∷ t) (all_some f ys)

  -- ---- lists of members

  abbrev pub Lists : {Y : Type 0} → (Y → List X) → List Y → List X → List X → ℕ → Type 0
  Lists g ys old now k = old ++ flat_map g ys ≡ now ++ flat_map g (drop k ys)

  pub lists_more : {Y : Type 0} (g : Y → List X) (ys : List Y) (old now next : List X) (k : ℕ) (y : Y) → k < length ys
      → next ≡ now ++ g (get_or ys k y) → Lists g ys old now k → Lists g ys old next (k + 1)
  lists_more g ys old now next k y lt e h =
      gathered_more old (flat_map g ys) now (g (get_or ys k y)) (flat_map g (drop (k + 1) ys)) next
      (h ∙ ap (λ (t : List X). now ++ t) (at_drop_more (flat_map g) ys k y lt)) e

  pub lists_all : {Y : Type 0} (g : Y → List X) (ys : List Y) (old now : List X) (k : ℕ) → length ys ≤ k
      → Lists g ys old now k → now ≡ old ++ flat_map g ys
  lists_all g ys old now k le h =
      gathered_all old (flat_map g ys) now (flat_map g (drop k ys)) h (ap (flat_map g) (drop_all k ys le))

pub all_on : (t : ℕ → Bool) (k n : ℕ) → k < n → list_all t (from k n) ≡ (t k && list_all t (from (k + 1) n))
all_on t k n h = rw (from_on k n h) refl

pub all_over : (t : ℕ → Bool) (k n : ℕ) → n ≤ k → list_all t (from k n) ≡ true
all_over t k n h = let e : n - k ≡ 0 = omega (arith, h) in rw e refl

-- a test of numbers, from one on
pub any_on : (t : ℕ → Bool) (k n : ℕ) → k < n → list_any t (from k n) ≡ (t k || list_any t (from (k + 1) n))
any_on t k n h = let e : n - k ≡ suc (n - (k + 1)) = omega (arith, h) in rw e refl

pub any_over : (t : ℕ → Bool) (k n : ℕ) → n ≤ k → list_any t (from k n) ≡ false
any_over t k n h = let e : n - k ≡ 0 = omega (arith, h) in rw e refl
