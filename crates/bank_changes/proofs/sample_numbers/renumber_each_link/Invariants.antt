use Rattle.std.proofs.Common.{◌≡◌, ◌++◌, map, take, drop}
use Rattle.bank_changes.specs.SampleNumbers.{number_in}
use Rattle.bank_parts.specs.Renumbered.{sample_with}
use Rattle.bank_changes.proofs.sample_numbers.renumber_each_link.Given as goal

abbrev pub invariant-loop-sample : goal.invariant-loop-sample
invariant-loop-sample l =
    l.samples
    ≡ map (sample_with (number_in l.numbers)) (take l.sample-index l.initial.samples)
    ++ drop l.sample-index l.initial.samples
