-- Slices of a table between running indexes.
use Rattle.std.specs.Prelude.{◌+◌, ◌-◌, ℕ, List, [], ◌∷◌, length, take}
use Rattle.std.specs.List.{slice_range}

-- the running sums of these sizes, from `at`
abbrev pub ends : ℕ → List ℕ → List ℕ
ends at [] = []
ends at (n ∷ ns) = (at + n) ∷ ends (at + n) ns

-- the index at which each list of these sizes starts, and last the total
abbrev pub starts : List ℕ → List ℕ
starts ns = 0 ∷ ends 0 ns

abbrev pub windows_from : {X : Type 0} → List X → ℕ → List ℕ → List (List X)
windows_from table at [] = []
windows_from table at (i ∷ is) = slice_range table at i ∷ windows_from table i is

-- the slices of a table from each index to the next
abbrev pub windows : {X : Type 0} → List X → List ℕ → List (List X)
windows table [] = []
windows table (i ∷ is) = windows_from table i is

-- the two lists zipped by f, up to the end of the shorter one
abbrev pub zip_with : {X Y Z : Type 0} → (X → Y → Z) → List X → List Y → List Z
zip_with f [] ys = []
zip_with f (x ∷ xs) [] = []
zip_with f (x ∷ xs) (y ∷ ys) = f x y ∷ zip_with f xs ys

-- the records of a list without the last, its terminal
abbrev pub without_terminal : {X : Type 0} → List X → List X
without_terminal records = take (length records - 1) records
