-- The texts of consecutive numbers.
use Rattle.std.proofs.Common.{◌≡◌, ◌≤◌, ◌<◌, ℕ, suc, ◌+◌, ◌-◌, List, [], ◌++◌, refl, ap, arith}
use Rattle.std.specs.List.{flat_map, range_with_len}

-- the numbers from k up to n
abbrev pub from : ℕ → ℕ → List ℕ
from k n = range_with_len k (n - k)

module _ (f : ℕ → List ℕ) where
  pub texts_from_0 : (n : ℕ) → flat_map f (range_with_len 0 n) ≡ flat_map f (from 0 n)
  texts_from_0 n = let e : n ≡ n - 0 = omega arith in ap (λ (m : ℕ). flat_map f (range_with_len 0 m)) e

  pub texts_next : (k n : ℕ) → k < n → flat_map f (from k n) ≡ f k ++ flat_map f (from (k + 1) n)
  texts_next k n h = let e : n - k ≡ suc (n - (k + 1)) = omega (arith, h) in rw e refl

  pub texts_past : (k n : ℕ) → n ≤ k → [] ≡ flat_map f (from k n)
  texts_past k n h = let e : n - k ≡ 0 = omega (arith, h) in rw e refl
