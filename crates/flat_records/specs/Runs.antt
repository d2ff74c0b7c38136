-- Consecutive lists in one list, and where each begins.
use Rattle.std.specs.Prelude.{ℕ, ◌≤◌, ◌+◌, List, [], ◌∷◌, ◌++◌, map, take, drop}

-- The start of each member, and last the end of all: `past` computes the end of a member from its start.
abbrev pub starts : {X M : Type 0} → (M → X → M) → M → List X → List M
starts past at [] = at ∷ []
starts past at (x ∷ xs) = at ∷ starts past (past at x) xs

-- The list with f applied to the members from index k on.
abbrev pub changed_from : {X : Type 0} → ℕ → (X → X) → List X → List X
changed_from k f xs = take k xs ++ map f (drop k xs)

-- The list with the members ys inserted at index i.
abbrev pub put : {X : Type 0} → List X → ℕ → List X → List X
put xs i ys = take i xs ++ (ys ++ drop i xs)

-- The list with n members removed from index i.
abbrev pub cut : {X : Type 0} → List X → ℕ → ℕ → List X
cut xs i n = take i xs ++ drop (i + n) xs

-- The list with the members a..b exchanged with the members b..c.
abbrev pub exchanged : {X : Type 0} → List X → ℕ → ℕ → ℕ → List X
exchanged xs a b c = take a xs ++ (drop b (take c xs) ++ (drop a (take b xs) ++ drop c xs))

-- The members b..c with f applied, then the members a..b with g applied.
abbrev pub changed_exchanged : {X : Type 0} → ℕ → ℕ → ℕ → (X → X) → (X → X) → List X → List X
changed_exchanged a b c f g xs = take a xs ++ (map f (drop b (take c xs)) ++ (map g (drop a (take b xs)) ++ drop c xs))

-- Two neighbouring ranges of a list of length n.
pub record AreAdjacentRanges (a b c n : ℕ) : Type 0 where
  pub first : a ≤ b
  pub second : b ≤ c
  pub within : c ≤ n
