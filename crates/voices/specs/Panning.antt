-- Panning: the share of each side of a frame, rounded down.
use Rattle.std.specs.Prelude.{ℕ, ◌+◌, ◌*◌, ◌/◌, ℤ, pos, ◌*ℤ◌}
use Rattle.sound_tables.specs.Floor.{floor_div}
use Rattle.voices.specs.declared.runs.Side.{Side}
use Rattle.voices.specs.declared.runs.Side.TheVariants.{Left, Right}

-- `part` 1000ths of z
unfoldable pub side : ℤ → ℕ → ℤ
side z part = floor_div (z *ℤ pos part) 1000

-- the index of a side's sum in each frame's two
abbrev pub side_index : Side → ℕ
side_index Left = 0
side_index Right = 1

-- a share of `part` 1000ths in 2^28ths, rounded up
abbrev pub fine_of : ℕ → ℕ
fine_of part = (part * 268435456 + 999) / 1000
