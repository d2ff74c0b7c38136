use Rattle.std.proofs.Common.{◌≡◌, drop}
use Rattle.sfbank.specs.Outcome.{first_not_neutral}
use Rattle.sfbank.proofs.edited_bank.all_neutral.Given as goal

-- all lines so far are neutral
abbrev pub invariant-loop-line : goal.invariant-loop-line
invariant-loop-line l = first_not_neutral l.lines ≡ first_not_neutral (drop l.line-index l.lines)
