-- Lists with one member moved or changed, or a range of members changed.
use Rattle.std.specs.Prelude.{ℕ, List, ◌++◌, map, take, drop, insert, remove, slice_get, slice_set}
use Rattle.std.specs.Option.{option_map_or}

-- The list with the member at index i moved to index j; the others keep their order.
abbrev pub moved : {X : Type 0} → List X → ℕ → ℕ → List X
moved xs i j = option_map_or (λ x. insert (remove xs i) j x) (slice_get xs i) xs

-- The list with f applied to the member at index i.
abbrev pub changed : {X : Type 0} → List X → ℕ → (X → X) → List X
changed xs i f = option_map_or (λ x. slice_set xs i (f x)) (slice_get xs i) xs

-- The list with f applied to the members with indexes from a up to, but not including, b.
abbrev pub changed_within : {X : Type 0} → ℕ → ℕ → (X → X) → List X → List X
changed_within a b f xs = take a xs ++ (map f (drop a (take b xs)) ++ drop b xs)
