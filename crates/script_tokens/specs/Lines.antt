-- The lines of a text. The last may lack its line feed.
use Rattle.std.specs.Prelude.{ℕ, Bool, List, [], ◌∷◌, ◌==◌, if◌then◌else◌}

-- a line feed
abbrev pub is_feed : ℕ → Bool
is_feed b = b == 10

-- puts a byte in front of the first line
abbrev pub onto : ℕ → List (List ℕ) → List (List ℕ)
onto b [] = (b ∷ []) ∷ []
onto b (l ∷ ls) = (b ∷ l) ∷ ls

-- the lines, without their line feeds
unfoldable pub lines_of : List ℕ → List (List ℕ)
lines_of [] = []
lines_of (b ∷ bs) = if is_feed b then [] ∷ lines_of bs else onto b (lines_of bs)
