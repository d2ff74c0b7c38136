-- Several moves of samples, one after another.
use Rattle.std.specs.Prelude.{◌≡◌, ◌<◌, ℕ, List, [], ◌∷◌, Some, map, slice_get}
use Rattle.std.specs.List.{AllByRecursion}
use Rattle.std.specs.Option.{option_map_or}
use Rattle.base_numbered_lists.specs.Moved.{moved}
use Rattle.bank_parts.specs.declared.parts.Sample.{Sample}
use Rattle.bank_parts.specs.declared.parts.Parts.{Parts}
use Rattle.bank_changes.specs.declared.sample_moves.SampleMove.{SampleMove}
use Rattle.bank_changes.specs.Samples.{sample_moved}

-- both numbers of the move are below n
pub record IsMove (n : ℕ) (m : SampleMove) : Type 0 where
  pub from : m.from < n
  pub to : m.to < n

abbrev pub AreMoves : ℕ → List SampleMove → Type 0
AreMoves n moves = AllByRecursion (IsMove n) moves

-- the samples are moved in order
abbrev pub samples_moved : Parts → List SampleMove → Parts
samples_moved b [] = b
samples_moved b (m ∷ ms) = samples_moved (sample_moved b m.from m.to) ms

-- the name of a sample; empty if there is no such sample
abbrev pub name_at : List Sample → ℕ → List ℕ
name_at ss number = option_map_or (λ (s : Sample). s.name) (slice_get ss number) []

-- the name of each moved sample, which is that of the bank before its move
abbrev pub moved_names : Parts → List SampleMove → List (List ℕ)
moved_names b [] = []
moved_names b (m ∷ ms) = name_at b.samples m.from ∷ moved_names (sample_moved b m.from m.to) ms

-- ---- the list alone

-- the members are moved in order
abbrev pub list_moved : {X : Type 0} → List X → List SampleMove → List X
list_moved xs [] = xs
list_moved xs (m ∷ ms) = list_moved (moved xs m.from m.to) ms

-- the name of each moved sample of a list
abbrev pub names_along : List Sample → List SampleMove → List (List ℕ)
names_along ss [] = []
names_along ss (m ∷ ms) = name_at ss m.from ∷ names_along (moved ss m.from m.to) ms

-- the members of a list at these indexes are the arranged ones
abbrev pub IsOrder : {X : Type 0} → List X → List ℕ → List X → Type 0
IsOrder xs indexes arranged = map (slice_get xs) indexes ≡ map Some arranged
