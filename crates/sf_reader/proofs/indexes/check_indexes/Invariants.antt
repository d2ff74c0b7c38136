use Rattle.std.proofs.Common.{◌≡◌, ◌&&◌, ◌-◌, leb, map}
use Rattle.std.specs.List.{list_all}
use Rattle.bank_format.specs.ReadChecks.{is_rising, is_rising_from}
use Rattle.sf_reader.proofs.indexes.check_indexes.Given as goal

-- the indexes pass their checks if the remaining ones do, starting from `last`
abbrev pub invariant-loop-row : goal.invariant-loop-row
invariant-loop-row g l =
    (goal.iterator-loop-row g).can_next l.row-iterator
    × (goal.iterator-loop-row g).is_finite l.row-iterator
    × (is_rising_from l.last (map g.I.Index.index l.row-iterator) ≡ is_rising (map g.I.Index.index l.records))
    × ((leb l.last (l.count - 1) && list_all (λ i. leb i (l.count - 1)) (map g.I.Index.index l.row-iterator))
    ≡ list_all (λ i. leb i (l.count - 1)) (map g.I.Index.index l.records))
