use Rattle.std.proofs.Common.{◌∷◌}
use Rattle.bank_format.specs.Reading.{bags_in}
use Rattle.sf_reader.proofs.BagSequences.{Remaining}
use Rattle.sf_reader.proofs.zones.read_bags.Given as goal

-- the bags read so far, continued by the remaining bags, are all
abbrev pub invariant-loop-end : goal.invariant-loop-end
invariant-loop-end l =
    (goal.iterator-loop-end).can_next l.end-iterator
    × (goal.iterator-loop-end).is_finite l.end-iterator
    × Remaining l.level l.targets.count l.targets.missing l.fn.records l.records l.counts
    (bags_in (l.start ∷ l.end-iterator) l.generators l.modulators) (bags_in l.bags l.generators l.modulators)
