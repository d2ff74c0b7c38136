-- A position in one of several slices.
use Rattle.std.specs.Prelude.{◌≡◌, ℕ, ◌+◌, ◌*◌, ◌<◌, ◌≤◌, List, length, take, get_or}
use Rattle.std.specs.Borrow.{Bor}
use Rattle.sample_view.specs.Pieces.{joined}

-- The position in this slice is before the point with this index.
pub record IsCut (pieces : List (Bor (List ℕ))) (index piece position : ℕ) : Type 0 where
  pub there : piece < length pieces
  pub sum : length (joined (take piece pieces)) + position ≡ index

-- The slice has a point at the position.
abbrev pub IsInside : List (Bor (List ℕ)) → ℕ → ℕ → Type 0
IsInside pieces piece position = (d : Bor (List ℕ)) → 2 * position + 1 < length (get_or pieces piece d).now

-- The slice has a point before the position.
pub record IsFilled (pieces : List (Bor (List ℕ))) (piece position : ℕ) : Type 0 where
  pub some : 0 < position
  pub inside : (d : Bor (List ℕ)) → 2 * position ≤ length (get_or pieces piece d).now
