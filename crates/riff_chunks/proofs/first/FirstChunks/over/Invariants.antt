use Rattle.std.proofs.Common.{◌≡◌}
use Rattle.riff_chunks.specs.Walk.{walk}
use Rattle.riff_chunks.specs.Finding.{chunks_in, is_whole}
use Rattle.riff_chunks.specs.First.{AreFirstSoFar}
use Rattle.riff_chunks.proofs.first.FirstChunks.over.Given as goal

-- The kept bodies and those of the remaining chunks are those of all chunks.
abbrev pub invariant-loop-item : goal.invariant-loop-item
invariant-loop-item l =
    (goal.iterator-loop-item).can_next l.item-iterator ×
    (goal.iterator-loop-item).is_finite l.item-iterator ×
    (is_whole l.item-iterator ≡ is_whole (walk l.window)) ×
    AreFirstSoFar l.ids l.bodies (chunks_in l.item-iterator) (chunks_in (walk l.window))
