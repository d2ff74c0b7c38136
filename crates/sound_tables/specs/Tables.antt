-- The formulas of pitch ratios, gains, times and phase increments.
use Rattle.std.specs.Prelude.{ℕ, ◌+◌, ◌-◌, ◌*◌, ◌/◌, ◌%◌, ◌^◌, ◌≤◌, ◌<◌, min, max, ℤ, pos, negsuc, Bool, cond}
use Rattle.std.specs.Prelude.{nat_lt, nat_le, int_le, List, [], ◌∷◌, slice_index}
use Rattle.std.specs.Int.{int_max, int_min}
use Rattle.std.specs.List.{position_or_len, range_with_len}
use Rattle.sound_tables.specs.Floor.{floor_div, floor_mod, clamped_at_zero, scaled}

-- The ratios of the semitones of an octave, in 65536ths.
abbrev pub semitones : List ℕ
semitones =
    65536 ∷ 69433 ∷ 73562 ∷ 77936 ∷ 82570 ∷ 87480 ∷ 92682 ∷ 98193 ∷ 104032 ∷ 110218 ∷ 116772 ∷ 123715 ∷ 131072 ∷ []

abbrev pub semitone : ℕ → ℕ
semitone k = slice_index semitones k

-- The ratio of an interval below an octave, interpolated linearly between two semitones; that of an octave for all
-- others.
unfoldable pub ratio : ℕ → ℕ
ratio cents =
    cond (nat_lt cents 1200)
    (semitone (cents / 100) + (semitone (cents / 100 + 1) - semitone (cents / 100)) * (cents % 100) / 100)
    131072

-- The ratio of any number of cents.
abbrev pub pitch_of : ℤ → ℕ
pitch_of cents = ratio (min (clamped_at_zero cents) 1200)

-- The gain of an attenuation in centibels, in 65536ths: halved by each 60 centibels more, zero from 960 on.
unfoldable pub gain_at : ℕ → ℕ
gain_at a = cond (nat_lt a 960) (ratio (1200 - 20 * (a % 60)) / 2 ^ (a / 60 + 1)) 0

-- The same for any number of centibels.
abbrev pub gain_of : ℤ → ℕ
gain_of a = gain_at (clamped_at_zero a)

-- The frames of a time in timecents: 44100 at 0, twice as many for each 1200 more.
unfoldable pub frames_at : ℤ → ℕ
frames_at x = scaled (44100 * ratio (floor_mod x 1200)) (floor_div x 1200) 65536

-- The same for any number of timecents; zero up to -12000.
abbrev pub frames_of : ℤ → ℕ
frames_of x = cond (int_le x (negsuc 11999)) 0 (frames_at (int_min x (pos 8000)))

-- The gain of the attenuation is at most the square of velocity / 127.
abbrev pub IsAsQuiet : ℕ → ℕ → Type 0
IsAsQuiet velocity a = gain_at a * (127 * 127) ≤ velocity * velocity * 65536

-- The same as a test.
abbrev pub is_as_quiet : ℕ → ℕ → Bool
is_as_quiet velocity a = nat_le (gain_at a * (127 * 127)) (velocity * velocity * 65536)

-- The least attenuation that is as quiet as a velocity.
unfoldable pub velocity_attenuation_of : ℕ → ℕ
velocity_attenuation_of velocity = position_or_len (is_as_quiet (min velocity 127)) (range_with_len 0 960)

-- Its correctness: as quiet, and the least.
pub record IsVelocityAttenuation (velocity a : ℕ) : Type 0 where
  pub within : a ≤ 960
  pub quiet : IsAsQuiet velocity a
  pub least : (b : ℕ) → b < a → velocity * velocity * 65536 < gain_at b * (127 * 127)

-- The phase increment of a frame, in 65536ths of a point, for an interval and a sample rate.
unfoldable pub phase_increment_at : ℤ → ℕ → ℕ
phase_increment_at cents rate = scaled (ratio (floor_mod cents 1200) * rate) (floor_div cents 1200) 44100

-- The same for any interval and rate, each clamped to its range.
abbrev pub phase_increment_of : ℤ → ℕ → ℕ
phase_increment_of cents rate = phase_increment_at (int_min (int_max cents (negsuc 14399)) (pos 9600)) (min (max rate 400) 192000)
