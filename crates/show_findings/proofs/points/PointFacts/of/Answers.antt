use Rattle.std.proofs.Common.{length, ap, ◌∙◌}
use Rattle.std.specs.List.{fold}
use Rattle.std.proofs.lemmas.List.{take_all}
use Rattle.sample_view.specs.Pieces.{joined}
use Rattle.show_findings.specs.declared.points.PointScan.{PointScan}
use Rattle.show_findings.specs.Scans.{scan_start, scan_more, facts_in}
use Rattle.show_findings.proofs.ScanLaws.{scan_piece}
use Rattle.show_findings.proofs.points.PointFacts.of.Goals as goal

pub loop-piece-preserved : goal.loop-piece-preserved
loop-piece-preserved c =
    scan_piece c.pieces-piece-items.result.now c.loop-piece.piece-index _ _ _ c.loop-piece-test.true
    c.loop-piece.invariant c.add_piece.ensures

pub returns : goal.returns
returns c =
    let pieces = c.pieces-piece-items.result.now in
    c.facts.ensures ∙ ap (facts_in c.loop-piece.scan) c.len.ensures.value
    ∙ ap (λ (s : PointScan). facts_in s (length c.args.points.now))
    (c.loop-piece.invariant
    ∙ ap (λ ps. fold scan_more scan_start (joined ps)) (take_all c.loop-piece.piece-index pieces c.loop-piece-test.false)
    ∙ ap (fold scan_more scan_start) c.pieces-piece-items.ensures.points)
