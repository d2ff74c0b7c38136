use Rattle.std.proofs.Common.{◌≡◌, ◌<◌, ◌^◌, take}
use Rattle.script_tokens.specs.Parsers.{digits_value}
use Rattle.script_tokens.proofs.numbers.digits_value.Given as goal

-- the value of the digits before the index
abbrev pub invariant-loop-digit : goal.invariant-loop-digit
invariant-loop-digit l =
    record { value : l.value ≡ digits_value (take l.digit-index l.word); below : l.value < 10 ^ l.digit-index }
