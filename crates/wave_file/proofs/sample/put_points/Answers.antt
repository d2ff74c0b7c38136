use Rattle.std.proofs.Common.{List, ℕ}
use Rattle.std.specs.Borrow.{Bor}
use Rattle.std.specs.List.{flat_map}
use Rattle.std.proofs.lemmas.List.{at_drop_more}
use Rattle.base_outputs.proofs.OutputLaws.{putting_step}
use Rattle.wave_file.proofs.sample.put_points.Goals as goal

pub loop-piece-preserved : goal.loop-piece-preserved
loop-piece-preserved g c =
    putting_step _ _ c.loop-piece.invariant
    (at_drop_more (flat_map (λ (piece : Bor (List ℕ)). piece.now)) _ c.loop-piece.piece-index _
    c.loop-piece-test.true)
    c.put.ensures
