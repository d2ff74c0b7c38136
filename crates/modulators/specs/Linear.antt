-- Linear modulators of a note's key or velocity, and their values.
use Rattle.std.specs.Prelude.{◌≡◌, ◌/◌, ◌^◌, ◌⊎◌, ◌==◌, ◌&&◌, ◌||◌, ◌-ℤ◌, ◌*ℤ◌, ℕ, ℤ, pos, Bool, cond, List, [], ◌∷◌}
use Rattle.std.specs.Prelude.{Option, Some, None}
use Rattle.std.specs.List.{Contains, list_any}
use Rattle.modulators.specs.declared.modulator.Modulator.{Modulator}
use Rattle.modulators.specs.Modulators.{bit_of, index_of, flag_of}

-- The curve of a source, its bits 10 to 15: 0 is linear.
abbrev pub curve_of : ℕ → ℕ
curve_of source = source / 2 ^ 10

-- General controllers: the velocity of the note, and its key.
abbrev pub velocity_index : ℕ
velocity_index = 2

abbrev pub key_index : ℕ
key_index = 3

-- The generators that such a modulator may change: pan; the volume envelope's attack, decay, sustain and release;
-- attenuation; fine tune.
abbrev pub linear_destinations : List ℕ
linear_destinations = 17 ∷ 34 ∷ 36 ∷ 37 ∷ 38 ∷ 48 ∷ 52 ∷ []

-- Linear, from the key or the velocity alone, to one of those generators.
pub record IsLinear (m : Modulator) : Type 0 where
  pub general : flag_of m.source ≡ 0
  pub controller : (index_of m.source ≡ velocity_index) ⊎ (index_of m.source ≡ key_index)
  pub straight : curve_of m.source ≡ 0
  pub alone : m.amount_source ≡ 0
  pub moves : Contains linear_destinations m.dest

-- The same as a test.
abbrev pub is_linear : Modulator → Bool
is_linear m =
    (flag_of m.source == 0)
    && ((index_of m.source == velocity_index) || (index_of m.source == key_index))
    && (curve_of m.source == 0)
    && (m.amount_source == 0)
    && list_any (λ operator. m.dest == operator) linear_destinations

-- The value of the source's controller.
abbrev pub controller_value : ℕ → ℕ → ℕ → ℕ
controller_value source key velocity = cond (index_of source == velocity_index) velocity key

-- Falling from 127 if bit 8 of the source is set.
abbrev pub directed : ℕ → ℤ → ℤ
directed source value = cond (bit_of 8 source == 1) (pos 127 -ℤ value) value

-- Bipolar, from -128 in steps of two, if bit 9 of the source is set.
abbrev pub polarized : ℕ → ℤ → ℤ
polarized source value = cond (bit_of 9 source == 1) (pos 2 *ℤ value -ℤ pos 128) value

-- The value of a linear modulator, in 128ths; none for any other.
abbrev pub linear_value : Modulator → ℕ → ℕ → Option ℤ
linear_value m key velocity =
    cond (is_linear m) (Some (polarized m.source (directed m.source (pos (controller_value m.source key velocity)))))
    None
