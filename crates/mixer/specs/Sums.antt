-- Sums over lists.
use Rattle.std.specs.Prelude.{ℤ, pos, ◌+ℤ◌, List, [], ◌∷◌}

-- the sum of f over a list
unfoldable pub sum_over : {X : Type 0} → (X → ℤ) → List X → ℤ
sum_over f [] = pos 0
sum_over f (x ∷ xs) = f x +ℤ sum_over f xs
