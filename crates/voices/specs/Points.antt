-- Points, and linear interpolation between them.
use Rattle.std.specs.Prelude.{ℕ, ◌+◌, ◌-◌, ◌/◌, ◌%◌, ℤ, pos, ◌+ℤ◌, ◌-ℤ◌, ◌*ℤ◌, Bool, cond, ◌&&◌, ◌==◌, nat_lt, List}
use Rattle.std.specs.Prelude.{slice_index}
use Rattle.std.specs.Int.{cast_signed, w16}
use Rattle.sound_tables.specs.Floor.{floor_div}
use Rattle.zone_select.specs.declared.parameters.VoiceParameters.{VoiceParameters}

-- point i of a sample, signed
unfoldable pub point_at : List ℕ → ℕ → ℤ
point_at points i = cast_signed w16 (slice_index points i)

-- linear interpolation between two points, at `part` of 65536, rounded down
unfoldable pub between : ℤ → ℤ → ℕ → ℤ
between p0 p1 part = p0 +ℤ floor_div ((p1 -ℤ p0) *ℤ pos part) 65536

-- 65536 times the linear interpolation between two points, not rounded
unfoldable pub weighed : ℤ → ℤ → ℕ → ℤ
weighed p0 p1 part = p0 *ℤ pos (65536 - part) +ℤ p1 *ℤ pos part

-- the point after point i: a loop's first after its last, and zero after the end
unfoldable pub follower : List ℕ → VoiceParameters → Bool → ℕ → ℤ
follower points v looping i =
    cond (looping && (i + 1 == v.loop_end)) (point_at points v.loop_start)
    (cond (nat_lt (i + 1) v.end) (point_at points (i + 1)) (pos 0))

-- the interpolated point at a position
unfoldable pub point_of : List ℕ → VoiceParameters → Bool → ℕ → ℤ
point_of points v looping x = between (point_at points (x / 65536)) (follower points v looping (x / 65536)) (x % 65536)
