use Rattle.wave_file.specs.Kept.{kept}
use Rattle.wave_file.proofs.KeptLaws.{Walked}
use Rattle.wave_file.proofs.chunks.WaveChunks.over.Given as goal

-- The bodies and the rest are those before the remaining items.
abbrev pub invariant-loop-item : goal.invariant-loop-item
invariant-loop-item l =
    (goal.iterator-loop-item).can_next l.item-iterator ×
    (goal.iterator-loop-item).is_finite l.item-iterator ×
    Walked l.window l.item-iterator (kept l.bodies) l.rest
