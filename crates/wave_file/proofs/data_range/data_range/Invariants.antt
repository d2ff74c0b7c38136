use Rattle.wave_file.proofs.DataLaws.{Reached}
use Rattle.wave_file.proofs.data_range.data_range.Given as goal

-- the remaining items are those of the rest
abbrev pub invariant-loop-item : goal.invariant-loop-item
invariant-loop-item l =
    (goal.iterator-loop-item).can_next l.item-iterator ×
    (goal.iterator-loop-item).is_finite l.item-iterator ×
    Reached l.window l.rest l.item-iterator
