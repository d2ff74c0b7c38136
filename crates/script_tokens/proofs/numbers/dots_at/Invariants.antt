use Rattle.std.proofs.Common.{◌≡◌, ◌≤◌, ◌+◌, ◌-◌, length, drop}
use Rattle.script_tokens.specs.Parsers.{dots_at}
use Rattle.script_tokens.proofs.numbers.dots_at.Given as goal

-- no `..` is before the current position
abbrev pub invariant-loop-at : goal.invariant-loop-at
invariant-loop-at l =
    record { within : l.at ≤ length l.word; left : l.at + dots_at (drop l.at l.word) ≡ dots_at l.word }

abbrev pub decreases-loop-at : goal.decreases-loop-at
decreases-loop-at l = length l.word - l.at
