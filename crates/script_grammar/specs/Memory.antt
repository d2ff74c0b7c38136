-- Parsers whose values are allocated.
use Rattle.std.specs.Prelude.{◌≡◌, Result, Ok, Err}
use Rattle.sf_base.specs.declared.memory.Failure.{Failure}
use Rattle.sf_base.specs.declared.memory.Failure.TheVariants.{Fault, OutOfMemory}
use Rattle.script_tokens.specs.declared.fault.LineFault.{LineFault}
use Rattle.script_tokens.specs.TokenValue as cursors
use Rattle.script_tokens.specs.Parsers.{Parser}

-- the contract of a function that implements such a parser; a failed allocation may replace any result
abbrev pub ReadsOrOutOfMemory : {X Y : Type 0} → (X → Y) → Parser Y → cursors.CursorState → cursors.CursorState
    → Result X (Failure LineFault) → Type 0
ReadsOrOutOfMemory view part old new (Ok x) =
    (part old.token_values ≡ Ok (record { value = view x; rest = new.token_values })) × (new.pool ≡ old.pool)
ReadsOrOutOfMemory view part old new (Err (Fault e)) = part old.token_values ≡ Err e
ReadsOrOutOfMemory view part old new (Err OutOfMemory) = Unit {0}
