-- The texts of consecutive numbers.
use Rattle.std.proofs.Common.{◌≡◌, ◌≤◌, ◌<◌, ℕ, suc, ◌+◌, ◌-◌, List, [], ◌++◌, Option, Some, None, refl, sym, ap, arith}
use Rattle.std.specs.List.{flat_map, filter_map, cons_option, range_with_len}
use Rattle.std.proofs.lemmas.List.{append-nil}
use Rattle.std.proofs.lemmas.List.Concat.{flat_map-append}

-- those from k to below n
abbrev pub from : ℕ → ℕ → List ℕ
from k n = range_with_len k (n - k)

pub all_from : (n : ℕ) → range_with_len 0 n ≡ from 0 n
all_from n = let e : n - 0 ≡ n = omega arith in rw e refl

module _ {X : Type 0} (f : X → List ℕ) where
  pub row_on : (g : ℕ → List X) (k n : ℕ) → k < n
      → flat_map f (flat_map g (from k n)) ≡ flat_map f (g k) ++ flat_map f (flat_map g (from (k + 1) n))
  row_on g k n h =
      let e : n - k ≡ suc (n - (k + 1)) = omega (arith, h) in
      rw e (flat_map-append f (g k) (flat_map g (from (k + 1) n)))

  pub row_over : (g : ℕ → List X) (k n : ℕ) → n ≤ k → flat_map f (flat_map g (from k n)) ≡ []
  row_over g k n h = let e : n - k ≡ 0 = omega (arith, h) in rw e refl

  first_option : (o : Option X) (xs : List X)
      → flat_map f (cons_option o xs) ≡ flat_map f (cons_option o []) ++ flat_map f xs
  first_option None xs = refl
  first_option (Some x) xs = ap (λ (t : List ℕ). t ++ flat_map f xs) (sym (append-nil (f x)))

  pub options_on : (g : ℕ → Option X) (k n : ℕ) → k < n
      → flat_map f (filter_map g (from k n))
      ≡ flat_map f (cons_option (g k) []) ++ flat_map f (filter_map g (from (k + 1) n))
  options_on g k n h =
      let e : n - k ≡ suc (n - (k + 1)) = omega (arith, h) in
      rw e (first_option (g k) (filter_map g (from (k + 1) n)))

  pub options_over : (g : ℕ → Option X) (k n : ℕ) → n ≤ k → flat_map f (filter_map g (from k n)) ≡ []
  options_over g k n h = let e : n - k ≡ 0 = omega (arith, h) in rw e refl
