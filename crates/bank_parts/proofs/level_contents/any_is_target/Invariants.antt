use Rattle.std.proofs.Common.{◌≡◌, take}
use Rattle.std.specs.List.{list_any}
use Rattle.bank_parts.specs.Records.{is_target}
use Rattle.bank_parts.proofs.level_contents.any_is_target.Given as goal

-- whether one of the remaining entries is the target
abbrev pub invariant-loop-other : goal.invariant-loop-other
invariant-loop-other l = l.found ≡ list_any (is_target l.operator l.number) (take l.other-index l.gens)
