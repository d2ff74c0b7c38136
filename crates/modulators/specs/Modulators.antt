-- Modulators: links, identity, and the default modulator of velocity.
use Rattle.std.specs.Prelude.{◌≡◌, ◌<◌, ◌/◌, ◌%◌, ◌^◌, ◌⊎◌, ◌==◌, ◌&&◌, ◌||◌, ℕ, pos, Bool, FitsSigned}
use Rattle.std.specs.Int.{w16}
use Rattle.modulators.specs.declared.modulator.Modulator.{Modulator}

-- Bit k of a number, 0 or 1.
abbrev pub bit_of : ℕ → ℕ → ℕ
bit_of k n = n / 2 ^ k % 2

-- The index of a source, its bits 0 to 6.
abbrev pub index_of : ℕ → ℕ
index_of source = source % 128

-- The controller flag of a source, its bit 7.
abbrev pub flag_of : ℕ → ℕ
flag_of source = bit_of 7 source

-- The destination has bit 15 set, or the source has controller flag 0 and index 127.
abbrev pub IsLink : Modulator → Type 0
IsLink m = (bit_of 15 m.dest ≡ 1) ⊎ ((flag_of m.source ≡ 0) × (index_of m.source ≡ 127))

-- The same as a test.
abbrev pub is_link : Modulator → Bool
is_link m = (bit_of 15 m.dest == 1) || ((flag_of m.source == 0) && (index_of m.source == 127))

-- Source, destination and amount source are equal.
pub record SameIdentity (a b : Modulator) : Type 0 where
  pub source : a.source ≡ b.source
  pub dest : a.dest ≡ b.dest
  pub amount_source : a.amount_source ≡ b.amount_source

-- The same as a test.
abbrev pub same_identity : Modulator → Modulator → Bool
same_identity a b = (a.source == b.source) && (a.dest == b.dest) && (a.amount_source == b.amount_source)

-- From note-on velocity, falling and concave (0x0502), to attenuation: up to 960 centibels.
abbrev pub default_velocity : Modulator
default_velocity = record { source = 1282; dest = 48; amount = pos 960; amount_source = 0; transform = 0 }

-- Each number is in the range of its field.
pub record FitsModulator (m : Modulator) : Type 0 where
  pub source : m.source < 2 ^ 16
  pub dest : m.dest < 2 ^ 16
  pub amount : FitsSigned w16 m.amount
  pub amount_source : m.amount_source < 2 ^ 16
  pub transform : m.transform < 2 ^ 16
