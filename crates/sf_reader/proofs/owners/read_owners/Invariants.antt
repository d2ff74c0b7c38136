use Rattle.bank_format.specs.Reading.{bags_in}
use Rattle.sf_reader.proofs.OwnerLaws.{Remaining}
use Rattle.sf_reader.proofs.owners.read_owners.Given as goal

-- the owners so far and those of the remaining headers are all
abbrev pub invariant-loop-next : goal.invariant-loop-next
invariant-loop-next g l =
    (goal.iterator-loop-next g).can_next l.next-iterator
    × (goal.iterator-loop-next g).is_finite l.next-iterator
    × Remaining g.H.RecordedHead.headers l.targets.count l.targets.missing
    (bags_in l.level.bags l.level.generators l.level.modulators) l.level.heads l.read l.head l.next-iterator
