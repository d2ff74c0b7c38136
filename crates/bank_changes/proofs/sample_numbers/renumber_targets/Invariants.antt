use Rattle.std.proofs.Common.{◌≡◌, ◌++◌, map, take, drop}
use Rattle.bank_changes.specs.SampleNumbers.{number_in}
use Rattle.bank_parts.specs.Renumbered.{owner_with}
use Rattle.bank_changes.proofs.sample_numbers.renumber_targets.Given as goal

abbrev pub invariant-loop-i : goal.invariant-loop-i
invariant-loop-i g l =
    l.owners
    ≡ map (owner_with (number_in l.numbers)) (take l.i l.initial.owners) ++ drop l.i l.initial.owners
