-- Loops over a list, each of whose members is written.
use Rattle.std.proofs.Common.{◌≡◌, ◌≤◌, ◌<◌, ◌+◌, ◌-◌, ◌++◌, ℕ, suc, List, [], length, drop, Option, refl, ap, subst}
use Rattle.std.proofs.Common.{arith}
use Rattle.std.specs.List.{flat_map, range_with_len}
use Rattle.std.proofs.lemmas.List.{drop_all}
use Rattle.base_outputs.specs.declared.output.Output.{Output}
use Rattle.base_outputs.specs.Output.{Puts}
use Rattle.base_outputs.proofs.OutputLaws.{Putting, putting_end}

-- the numbers from k to below n
abbrev pub from : ℕ → ℕ → List ℕ
from k n = range_with_len k (n - k)

pub all_from : (n : ℕ) → range_with_len 0 n ≡ from 0 n
all_from n = let e : n - 0 ≡ n = omega arith in rw e refl

pub from_on : (f : ℕ → List ℕ) (k n : ℕ) → k < n → flat_map f (from k n) ≡ f k ++ flat_map f (from (k + 1) n)
from_on f k n h = let e : n - k ≡ suc (n - (k + 1)) = omega (arith, h) in rw e refl

pub from_over : (f : ℕ → List ℕ) (k n : ℕ) → n ≤ k → flat_map f (from k n) ≡ []
from_over f k n h = let e : n - k ≡ 0 = omega (arith, h) in rw e refl

-- after the last number nothing remains
pub putting_past : {W : Type 0} {c : W → Option (List ℕ)} {o p : Output W} {whole : List ℕ} (f : ℕ → List ℕ) (k n : ℕ)
    → Putting c o p whole (flat_map f (from k n)) → n ≤ k → Puts c o p whole
putting_past {c = c} {o = o} {p = p} {whole = whole} f k n s over =
    putting_end (subst (λ (t : List ℕ). Putting c o p whole t) (from_over f k n over) s)

-- after the last member nothing remains
pub putting_all : {W X : Type 0} {c : W → Option (List ℕ)} {o p : Output W} {whole : List ℕ} (f : X → List ℕ)
    (xs : List X) (i : ℕ)
    → Putting c o p whole (flat_map f (drop i xs)) → length xs ≤ i → Puts c o p whole
putting_all {c = c} {o = o} {p = p} {whole = whole} f xs i s over =
    putting_end (subst (λ (t : List ℕ). Putting c o p whole t) (ap (flat_map f) (drop_all i xs over)) s)
