-- Runs of frames.
use Rattle.std.specs.Prelude.{ℕ, ◌+◌, ◌*◌, ◌/◌, ◌%◌, Bool, cond, List, ◌≡◌, ◌≤◌, ◌<◌, ◌^◌, ℤ, pos, negsuc, ◌+ℤ◌}
use Rattle.std.specs.Prelude.{◌≤ℤ◌, false, slice_index}
use Rattle.std.specs.Int.{cast_signed, w16}
use Rattle.zone_select.specs.declared.parameters.VoiceParameters.{VoiceParameters}
use Rattle.voices.specs.Position.{wrapped, is_over, is_looping}
use Rattle.voices.specs.Points.{between, point_at}
use Rattle.voices.specs.Within.{IsWithin}

-- `sound` was added to a sum
pub record IsAdded (was sound sum : ℤ) : Type 0 where
  pub added : sum ≡ was +ℤ sound
  pub low : negsuc 32767 ≤ℤ sound
  pub high : sound ≤ℤ pos 32767

-- `sound` was added to the sum of a side and the sum that both sides share, together
pub record IsShared (was_side was_middle sound side middle : ℤ) : Type 0 where
  pub added : side +ℤ middle ≡ was_side +ℤ was_middle +ℤ sound
  pub side_room : (j : ℕ) → IsWithin j was_side → IsWithin (j + 1) side
  pub middle_room : (j : ℕ) → IsWithin j was_middle → IsWithin (j + 1) middle

-- n frames from t on in which the voice isn't over, all before the note's end or none, and with the loop active in all
-- or in none
pub record IsStretch (v : VoiceParameters) (t n : ℕ) : Type 0 where
  pub young : t + n < 2 ^ 33
  pub unreleased : t + n ≤ v.length + v.release
  pub held : t < v.length → t + n ≤ v.length
  pub sounds : (k : ℕ) → k < n → is_over v (t + k) ≡ false
  pub same : (k : ℕ) → k < n → is_looping v (t + k) ≡ is_looping v t

-- the point at which a loop wraps, or the sample ends
abbrev pub limit : VoiceParameters → Bool → ℕ
limit v looping = cond looping v.loop_end v.end

-- x, wrapped if the loop is active
abbrev pub wrapped_position : VoiceParameters → Bool → ℕ → ℕ
wrapped_position v looping x = cond looping (wrapped (65536 * v.loop_start) (65536 * v.loop_end) x) x

-- the interpolated point at a position, without a loop or an end
unfoldable pub straight : List ℕ → ℕ → ℤ
straight points x = between (point_at points (x / 65536)) (point_at points (x / 65536 + 1)) (x % 65536)

-- a point and the next one, as one word
abbrev pub pair_at : List ℕ → ℕ → ℕ
pair_at points i = slice_index points i + 65536 * slice_index points (i + 1)

-- linear interpolation between the two points of a pair, at `part` of 65536
abbrev pub interpolated_pair : ℕ → ℕ → ℤ
interpolated_pair pair part = between (cast_signed w16 (pair % 65536)) (cast_signed w16 (pair / 65536)) part
