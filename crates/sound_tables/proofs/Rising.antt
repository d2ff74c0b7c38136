-- Monotone functions of numbers.
use Rattle.std.proofs.Common.{◌≡◌, ◌≤◌, ◌<◌, ◌+◌, ℕ, zero, suc, true, ⊎_elim, subst, arith}
use Rattle.std.specs.Prelude.{nat_le}
use Rattle.std.proofs.lemmas.Bool.{cases_eq, agree_below, agree_below_at}
use Rattle.std.proofs.lemmas.Bool.Decides.{nat_tests}

-- A relation that holds from each number to the next holds from any number to any later one.
module _ (R : ℕ → ℕ → Type 0) (same : (x : ℕ) → R x x) (through : (x y z : ℕ) → R x y → R y z → R x z) where
  pub from_to : (f : ℕ → ℕ) (n : ℕ) → ((k : ℕ) → k < n → R (f k) (f (k + 1))) → (a b : ℕ) → a ≤ b → b ≤ n
      → R (f a) (f b)
  from_to f n next a zero h l = subst (λ x. R (f x) (f 0)) (omega arith) (same (f 0))
  from_to f n next a (suc b) h l = ⊎_elim
      (λ e. subst (λ x. R (f a) (f x)) e (same (f a)))
      (λ apart. through (f a) (f b) (f (suc b)) (from_to f n next a b (omega arith) (omega arith))
      (subst (λ x. R (f b) (f x)) (omega arith) (next b (omega arith))))
      (cases_eq a (suc b))

-- A test of each number below n, computed for a literal n.
pub at_each : (g h : ℕ → ℕ) (n : ℕ) → agree_below (λ k. nat_le (g k) (h k)) (λ _. true) n ≡ true → (k : ℕ) → k < n
    → g k ≤ h k
at_each g h n e k l =
    let t : nat_le (g k) (h k) ≡ true = agree_below_at (λ x. nat_le (g x) (h x)) (λ _. true) n k e l in
    grind (arith, nat_tests)

pub never_falls : (f : ℕ → ℕ) (n : ℕ) → ((k : ℕ) → k < n → f k ≤ f (k + 1)) → (a b : ℕ) → a ≤ b → b ≤ n → f a ≤ f b
never_falls = from_to (λ x y. x ≤ y) (λ x. omega arith) (λ x y z h g. omega arith)

pub never_rises : (f : ℕ → ℕ) (n : ℕ) → ((k : ℕ) → k < n → f (k + 1) ≤ f k) → (a b : ℕ) → a ≤ b → b ≤ n → f b ≤ f a
never_rises = from_to (λ x y. y ≤ x) (λ x. omega arith) (λ x y z h g. omega arith)
