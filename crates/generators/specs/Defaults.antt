-- The default amounts of the played operators.
use Rattle.std.specs.Prelude.{ℕ, ℤ, Bool, pos, negsuc, ◌||◌, ◌==◌, if◌then◌else◌, [], ◌∷◌, Option, Some, None}
use Rattle.generators.specs.Levels.{is_one_of, is_within}

-- Address offsets, pan, sustain, attenuation, tuning, sample modes and exclusive class.
abbrev pub is_zero_by_default : ℕ → Bool
is_zero_by_default op = is_within 0 4 op || is_one_of (12 ∷ 45 ∷ 50 ∷ 17 ∷ 37 ∷ 48 ∷ 51 ∷ 52 ∷ 54 ∷ 57 ∷ []) op

-- The times of the volume envelope: -12000 timecents, about a millisecond.
abbrev pub is_instant_by_default : ℕ → Bool
is_instant_by_default op = is_within 33 36 op || op == 38

-- The key, the velocity and the root key: -1 for those of the note or the sample.
abbrev pub is_minus_one_by_default : ℕ → Bool
is_minus_one_by_default op = is_one_of (46 ∷ 47 ∷ 58 ∷ []) op

unfoldable pub default_of : ℕ → Option ℤ
default_of op =
    if is_zero_by_default op then Some (pos 0)
    else if is_instant_by_default op then Some (negsuc 11999)
    else if is_minus_one_by_default op then Some (negsuc 0)
    else if op == 56 then Some (pos 100)
    else None
