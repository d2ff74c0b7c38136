use Rattle.std.proofs.Common.{◌-◌, take}
use Rattle.std.specs.Prelude.{All}
use Rattle.sample_view.specs.Pieces.{joined, IsPiece}
use Rattle.sample_view.proofs.CopyLaws.{CopiedSoFar}
use Rattle.sample_view.proofs.cuts.copy_range.Given as goal

-- The points kept of the earlier slices, how many are still to skip, and how many to keep.
abbrev pub invariant-loop-piece : goal.invariant-loop-piece
invariant-loop-piece l = record {
  copy_range : CopiedSoFar (joined (take l.piece-index l.pieces)) (joined l.kept.items) l.from (l.to - l.from) l.skip l.remaining;
  whole : All IsPiece l.kept.items;
}
