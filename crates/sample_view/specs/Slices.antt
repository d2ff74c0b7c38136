-- How the slices of points are stored.
use Rattle.std.specs.Prelude.{◌≡◌, ℕ, List, [], ◌∷◌, length, ⊤}
use Rattle.std.specs.Borrow.{Bor}
use Rattle.sample_view.specs.Pieces.{joined}
use Rattle.sample_view.specs.declared.slices.Slices.{Slices}
use Rattle.sample_view.specs.declared.slices.Slices.TheVariants.{Empty, One, Many}

-- The slices in order.
abbrev pub pieces_of : Slices → List (Bor (List ℕ))
pieces_of Empty = []
pieces_of (One bytes) = bytes ∷ []
pieces_of (Many pieces count) = pieces.value

-- A stored number of points is right.
abbrev pub IsCounted : Slices → Type 0
IsCounted Empty = ⊤
IsCounted (One bytes) = ⊤
IsCounted (Many pieces count) = count ≡ length (joined pieces.value)
