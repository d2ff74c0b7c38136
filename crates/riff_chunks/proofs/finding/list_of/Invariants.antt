use Rattle.std.proofs.Common.{◌≡◌}
use Rattle.riff_chunks.specs.Walk.{walk}
use Rattle.riff_chunks.specs.Finding.{chunks_in, first_list}
use Rattle.riff_chunks.proofs.finding.list_of.Given as goal

-- The first list is among the remaining chunks.
abbrev pub invariant-loop-item : goal.invariant-loop-item
invariant-loop-item l =
    (goal.iterator-loop-item).can_next l.item-iterator ×
    (goal.iterator-loop-item).is_finite l.item-iterator ×
    (first_list l.form (chunks_in l.item-iterator) ≡ first_list l.form (chunks_in (walk l.window)))
