-- The position at which a voice reads its sample at frame t, in 65536ths of a point, and when the voice is over.
use Rattle.std.specs.Prelude.{ℕ, ◌+◌, ◌-◌, ◌*◌, ◌%◌, Bool, true, cond, not, ◌&&◌, nat_le}
use Rattle.zone_select.specs.declared.parameters.VoiceParameters.{VoiceParameters}

-- x, wrapped into the loop from `from` to `to` if it is at or past the loop's end
abbrev pub wrapped : ℕ → ℕ → ℕ → ℕ
wrapped from to x = cond (nat_le to x) (from + (x - from) % (to - from)) x

-- the position while the loop, if there is one, is active
unfoldable pub looped_position : VoiceParameters → ℕ → ℕ
looped_position v t =
    cond v.looped (wrapped (65536 * v.loop_start) (65536 * v.loop_end) (65536 * v.start + t * v.phase_increment))
    (65536 * v.start + t * v.phase_increment)

-- the note has ended, and with it a loop that lasts until the release
abbrev pub is_loop_left : VoiceParameters → ℕ → Bool
is_loop_left v t = v.until_release && nat_le v.length t

-- the loop is active
abbrev pub is_looping : VoiceParameters → ℕ → Bool
is_looping v t = v.looped && not (is_loop_left v t)

-- the position; after the loop is left, it advances linearly from there
unfoldable pub position : VoiceParameters → ℕ → ℕ
position v t = cond (is_loop_left v t) (looped_position v v.length + (t - v.length) * v.phase_increment) (looped_position v t)

-- the voice is silent from here on: the release is over, or no loop is active and the position is at the end
abbrev pub is_over : VoiceParameters → ℕ → Bool
is_over v t =
    cond (nat_le (v.length + v.release) t) true (not (is_looping v t) && nat_le (65536 * v.end) (position v t))
