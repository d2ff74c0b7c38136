-- The peak and the clipped frames of samples, left and right in turn.
use Rattle.std.specs.Prelude.{◌+◌, ◌-◌, ◌^◌, min, max, ℤ, pos, negsuc, unsigned_abs, Bool, ◌||◌, cond, List, ◌∷◌}
use Rattle.std.specs.Ordering.{int_eq}
use Rattle.live_sessions.specs.declared.meter.Meter.{Meter}

abbrev pub silent : Meter
silent = record { peak = 0; clipped = 0 }

-- a sample at a limit of 16 bits
abbrev pub is_full : ℤ → Bool
is_full z = int_eq z (negsuc 32767) || int_eq z (pos 32767)

-- one more frame
abbrev pub with_frame : Meter → ℤ → ℤ → Meter
with_frame m left right = record {
  peak = max m.peak (max (unsigned_abs left) (unsigned_abs right));
  clipped = cond (is_full left || is_full right) (min (m.clipped + 1) (2 ^ 64 - 1)) m.clipped;
}

-- all frames of these samples
unfoldable pub metered : Meter → List ℤ → Meter
metered m (left ∷ right ∷ samples) = metered (with_frame m left right) samples
metered m samples = m
