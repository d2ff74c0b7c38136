-- Applying a gain to a point, rounded down.
use Rattle.std.specs.Prelude.{ℕ, ℤ, pos, ◌*ℤ◌}
use Rattle.sound_tables.specs.Floor.{floor_div}

-- a point times a gain, in 65536ths
unfoldable pub scaled_by : ℤ → ℕ → ℤ
scaled_by p gain = floor_div (p *ℤ pos gain) 65536
