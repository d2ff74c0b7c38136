-- The pitch of a sample, as a unity note and a pitch fraction of a `smpl` chunk.
use Rattle.std.specs.Prelude.{◌+◌, ◌-◌, ◌*◌, ◌/◌, ◌%◌, ◌^◌, ℕ, suc, ℤ, pos, negsuc, min, nat_le, if◌then◌else◌}

-- the key that a sample is played by: 60 if it is above 127 (unpitched)
abbrev pub played_key : ℕ → ℕ
played_key key = if nat_le key 127 then key else 60

-- The pitch in cents above key 0, clamped to MIDI's keys: 0 to 12,799. A positive correction means that the recording
-- sounds below its key.
abbrev pub pitch : ℕ → ℤ → ℕ
pitch key (pos up) = min 12799 (100 * played_key key - up)
pitch key (negsuc down) = min 12799 (100 * played_key key + suc down)

-- the key at or below that pitch
abbrev pub unity_note : ℕ → ℤ → ℕ
unity_note key correction = pitch key correction / 100

-- the pitch above that key, in units of 1/2^32 semitone
abbrev pub pitch_fraction : ℕ → ℤ → ℕ
pitch_fraction key correction = pitch key correction % 100 * 2 ^ 32 / 100
