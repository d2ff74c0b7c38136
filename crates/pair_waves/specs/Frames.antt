-- The points of two sides in turn.
use Rattle.std.specs.Prelude.{ℕ, List, ◌++◌}
use Rattle.std.specs.List.{flat_map, zip}
use Rattle.sample_view.specs.Words.{word_bytes}

-- a left and a right point
abbrev pub frame_bytes : ℕ × ℕ → List ℕ
frame_bytes frame = word_bytes frame.0 ++ word_bytes frame.1

-- the bytes of all frames: of each left point, and of the right point beside it
abbrev pub interleaved : List ℕ → List ℕ → List ℕ
interleaved left right = flat_map frame_bytes (zip left right)
