-- The two levels, and the operators that each allows.
use Rattle.std.specs.Prelude.{ℕ, Bool, ◌==◌, ◌||◌, ◌&&◌, nat_le, List, [], ◌∷◌}
use Rattle.std.specs.List.{list_any}
use Rattle.generators.specs.declared.level.Level.{Level}
use Rattle.generators.specs.declared.level.Level.TheVariants.{Preset, Inst}

-- The operator whose amount is a zone's target.
abbrev pub target_operator : Level → ℕ
target_operator Preset = 41
target_operator Inst = 53

abbrev pub is_one_of : List ℕ → ℕ → Bool
is_one_of ops op = list_any (λ o. op == o) ops

abbrev pub is_within : ℕ → ℕ → ℕ → Bool
is_within low high op = nat_le low op && nat_le op high

-- Allowed in presets and in instruments.
abbrev pub is_common : ℕ → Bool
is_common op =
    is_within 5 11 op || op == 13 || is_within 15 17 op || is_within 21 40 op
    || is_one_of (43 ∷ 44 ∷ 48 ∷ 51 ∷ 52 ∷ 56 ∷ []) op

-- Allowed only in instruments.
abbrev pub is_instrument_only : ℕ → Bool
is_instrument_only op = is_within 0 4 op || is_one_of (12 ∷ 45 ∷ 46 ∷ 47 ∷ 50 ∷ 54 ∷ 57 ∷ 58 ∷ []) op

-- The operators that a level's maps may have.
unfoldable pub is_allowed : Level → ℕ → Bool
is_allowed Preset op = is_common op
is_allowed Inst op = is_common op || is_instrument_only op
