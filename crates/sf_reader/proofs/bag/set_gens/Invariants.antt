use Rattle.std.proofs.Common.{◌≡◌, take}
use Rattle.bank_format.specs.Zones.{target_of}
use Rattle.generators.specs.Gens.{set_in_order}
use Rattle.sf_reader.specs.Entries.{EndsInMap, map_from}
use Rattle.sf_reader.specs.Gens.{entries_in}
use Rattle.sf_reader.proofs.bag.set_gens.Given as goal

-- the remaining records determine the target, and the entries still to be set
abbrev pub invariant-loop-record : goal.invariant-loop-record
invariant-loop-record l =
    (goal.iterator-loop-record).can_next l.record-iterator
    × (goal.iterator-loop-record).is_finite l.record-iterator
    × (take l.start l.gens.items ≡ take l.start l.fn.gens.items)
    × EndsInMap l.start l.gens.items
    × (target_of l.level l.record-iterator ≡ target_of l.level l.records)
    ×
    (set_in_order (map_from l.start l.gens.items) (entries_in l.level l.record-iterator)
    ≡ set_in_order (map_from l.start l.fn.gens.items) (entries_in l.level l.records))
