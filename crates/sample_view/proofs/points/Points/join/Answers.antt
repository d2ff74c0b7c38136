use Rattle.std.specs.Prelude.{All}
use Rattle.std.proofs.lemmas.List.Elements.{All-append}
use Rattle.sample_view.specs.Pieces.{IsPiece}
use Rattle.sample_view.specs.Slices.{pieces_of}
use Rattle.sample_view.proofs.points.Points.join.Goals as goal

pub invariant_of-self : goal.invariant_of-self
invariant_of-self c =
    let old : All IsPiece (pieces_of c.replace-slices.result) = rw c.replace-slices.ensures.value c.self.invariant.0 in
    let joined = c.in-Ok.ensures in (
      rw joined.ok
          (All-append IsPiece _ _ (All-append IsPiece _ _ c.pieces.ensures.whole old) c.pieces-2.ensures.whole),
      joined.counted,
    )
