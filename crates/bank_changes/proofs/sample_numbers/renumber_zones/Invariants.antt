use Rattle.std.proofs.Common.{◌≡◌, ◌++◌, map, take, drop}
use Rattle.bank_parts.specs.Settings.{zones_changed}
use Rattle.bank_changes.specs.SampleNumbers.{number_in}
use Rattle.bank_parts.specs.Renumbered.{zone_with}
use Rattle.bank_changes.proofs.sample_numbers.renumber_zones.Given as goal

abbrev pub invariant-loop-k : goal.invariant-loop-k
invariant-loop-k g l =
    l.owners
    ≡ zones_changed l.initial.owners l.i (λ zones. map (zone_with (number_in l.numbers)) (take l.k zones) ++ drop l.k zones)
