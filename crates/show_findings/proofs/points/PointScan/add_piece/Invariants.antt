use Rattle.std.proofs.Common.{◌≡◌, take}
use Rattle.std.specs.List.{fold}
use Rattle.sample_view.specs.Words.{words}
use Rattle.show_findings.specs.declared.points.PointScan.{PointScan}
use Rattle.show_findings.specs.Scans.{scan_more}
use Rattle.show_findings.proofs.points.PointScan.add_piece.Given as goal

-- the scan of the points so far
abbrev pub invariant-loop-i : goal.invariant-loop-i
invariant-loop-i l =
    let now : PointScan = record { sum = l.sum; hash = l.hash; clips = l.clips } in
    now ≡ fold scan_more l.fn.self (take l.i (words l.bytes))
