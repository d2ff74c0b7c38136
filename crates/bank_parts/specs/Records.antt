-- Single generator records.
use Rattle.std.specs.Prelude.{ℕ, Bool, ◌==◌, ◌&&◌, if◌then◌else◌, not, nat_lt}
use Rattle.generators.specs.Levels.{is_allowed, target_operator}
use Rattle.generators.specs.declared.level.Level.{Level}
use Rattle.bank_parts.specs.Contents.{is_bad_range}

-- the record is a target with this number
abbrev pub is_target : ℕ → ℕ → ℕ × ℕ → Bool
is_target op number e = e.0 == op && e.1 == number

-- the record is a target below the number of targets, or a generator that the level allows and no bad range
abbrev pub is_valid_record : Level → ℕ → ℕ × ℕ → Bool
is_valid_record at targets e =
    if e.0 == target_operator at then nat_lt e.1 targets else is_allowed at e.0 && not (is_bad_range e)
