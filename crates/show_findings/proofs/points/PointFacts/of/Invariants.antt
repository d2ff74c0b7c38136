use Rattle.std.proofs.Common.{◌≡◌, take}
use Rattle.std.specs.List.{fold}
use Rattle.sample_view.specs.Pieces.{joined}
use Rattle.show_findings.specs.Scans.{scan_start, scan_more}
use Rattle.show_findings.proofs.points.PointFacts.of.Given as goal

-- the scan of the pieces so far
abbrev pub invariant-loop-piece : goal.invariant-loop-piece
invariant-loop-piece l = l.scan ≡ fold scan_more scan_start (joined (take l.piece-index l.piece-items))
