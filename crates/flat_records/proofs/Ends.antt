-- The first and the last member of a list, and its first members in two parts.
use Rattle.std.proofs.Common.{◌≡◌, ℕ, ◌≤◌, ◌+◌, ◌-◌, suc, zero, List, [], ◌∷◌, ◌++◌, length, slice_get, Some, sym}
use Rattle.std.proofs.Common.{◌∙◌, ap, take, drop, arith}
use Rattle.std.proofs.Math.Seq.{take-add}

-- The last of x and the members after it.
abbrev pub last_of : {X : Type 0} → X → List X → X
last_of x [] = x
last_of x (next ∷ rest) = last_of next rest

pub last-found : {X : Type 0} (x : X) (rest : List X) (n : ℕ) (y : X) → length rest ≡ n
    → slice_get (x ∷ rest) n ≡ Some y → last_of x rest ≡ y
last-found x [] zero y h e = cc
last-found x [] (suc n) y h e = absurd (omega arith)
last-found x (next ∷ rest) zero y h e = absurd (omega arith)
last-found x (next ∷ rest) (suc n) y h e = last-found next rest n y (omega arith) e

pub some-first : {X : Type 0} (xs : List X) (x : X) → slice_get xs 0 ≡ Some x → (rest : List X) × (xs ≡ x ∷ rest)
some-first [] x e = cc
some-first (y ∷ ys) x e = let same : y ≡ x = cc in (ys, ap (λ y. y ∷ ys) same)

pub joined : {X : Type 0} (xs : List X) (a b c : ℕ) → a ≤ b → b ≤ c
    → take (b - a) xs ++ take (c - b) (drop (b - a) xs) ≡ take (c - a) xs
joined xs a b c h1 h2 =
    let n : (b - a) + (c - b) ≡ c - a = omega arith in
    sym (take-add (b - a) (c - b) xs) ∙ ap (λ n. take n xs) n
