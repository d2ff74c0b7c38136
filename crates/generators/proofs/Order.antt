-- The canonical order of operators.
use Rattle.std.proofs.Common.{◌≡◌, ◌≢◌, ℕ, Bool, true, false, refl, ap, arith}
use Rattle.std.specs.declared.cmp.Ordering.TheVariants.{Less, Equal, Greater}
use Rattle.std.specs.Ordering.{is_eq, eq_by_cmp}
use Rattle.std.specs.Cmp.{IsTotalOrder, nat_cmp_total, on_total, tied_itself}
use Rattle.std.specs.FinMap.{IsAntisymmetric, nat_cmp-IsAntisymmetric}
use Rattle.std.proofs.lemmas.Bool.Decides.{nat_tests}
use Rattle.generators.specs.Gens.{rank, operator_cmp}

-- Each operator has a rank of its own.
pub rank_injective : (x y : ℕ) → rank x ≡ rank y → x ≡ y
rank_injective x y e = grind (arith, nat_tests)

pub operator_cmp-IsTotalOrder : IsTotalOrder operator_cmp
operator_cmp-IsTotalOrder = on_total rank nat_cmp_total

pub operator_cmp-IsAntisymmetric : IsAntisymmetric operator_cmp
operator_cmp-IsAntisymmetric x y e = rank_injective x y (nat_cmp-IsAntisymmetric (rank x) (rank y) e)

-- Whether two operators are equal.
abbrev pub tied : ℕ → ℕ → Bool
tied x y = eq_by_cmp operator_cmp x y

pub tied_same : (x : ℕ) → tied x x ≡ true
tied_same x = ap is_eq (tied_itself operator_cmp-IsTotalOrder x)

pub tied_is_same : (x y : ℕ) → tied x y ≡ true → x ≡ y
tied_is_same x y e = elim (operator_cmp x y) as (λ r. operator_cmp x y ≡ r → is_eq r ≡ true → x ≡ y) [
  | Less ↦ λ p h. cc
  | Equal ↦ λ p h. operator_cmp-IsAntisymmetric x y p
  | Greater ↦ λ p h. cc
] refl e

pub untied : (x y : ℕ) → x ≢ y → tied x y ≡ false
untied x y n = elim (tied x y) as (λ b. tied x y ≡ b → b ≡ false) [
  | true ↦ λ p. absurd (n (tied_is_same x y p))
  | false ↦ λ p. refl
] refl
