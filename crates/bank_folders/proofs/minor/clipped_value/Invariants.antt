use Rattle.std.proofs.Common.{◌≡◌, min, take}
use Rattle.script_tokens.specs.Parsers.{digits_value}
use Rattle.bank_folders.proofs.minor.clipped_value.Given as goal

-- the value of the digits before the index, clipped
abbrev pub invariant-loop-digit : goal.invariant-loop-digit
invariant-loop-digit l = l.value ≡ min (digits_value (take l.digit-index l.digits)) 65536
