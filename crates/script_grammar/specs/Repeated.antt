-- A part of a line that is repeated up to an end.
use Rattle.std.specs.Prelude.{ℕ, zero, suc, List, length, Err, Bool, if◌then◌else◌}
use Rattle.script_tokens.specs.declared.cursor.TokenValue.{TokenValue}
use Rattle.script_tokens.specs.declared.fault.LineFault.TheVariants as faults
use Rattle.script_tokens.specs.Parsers.{Parser, ◌>>=◌}

-- up to n repetitions: the value of each part is added to the state, and the last parser makes the result
unfoldable pub repeated_within : {X Y : Type 0} → (List TokenValue → Bool) → (Y → Parser Y) → Parser X → (Y → X → Y) → ℕ → Y
    → Parser Y
repeated_within ends last part with zero y line = Err faults.Syntax
repeated_within ends last part with (suc n) y line =
    if ends line then last y line
    else (part >>= λ x. repeated_within ends last part with n (with y x)) line

-- a line has no more parts than tokens
abbrev pub repeated : {X Y : Type 0} → (List TokenValue → Bool) → (Y → Parser Y) → Parser X → (Y → X → Y) → Y → Parser Y
repeated ends last part with y line = repeated_within ends last part with (suc (length line)) y line
