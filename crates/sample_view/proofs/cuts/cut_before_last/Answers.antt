use Rattle.std.proofs.Common.{arith}
use Rattle.sample_view.proofs.CutLaws.{cut_found, later-next}
use Rattle.sample_view.proofs.cuts.cut_before_last.Goals as goal

pub returns-then-skip-count-clause-cut : goal.returns-then-skip-count-clause-cut
returns-then-skip-count-clause-cut c =
    let here = c.loop-i-test.true in
    cut_found _ _ _ _ _ _ (omega (arith, here)) here c.loop-i.invariant c.if-skip-count.true

pub loop-i-preserved : goal.loop-i-preserved
loop-i-preserved c =
    let here = c.loop-i-test.true in
    later-next _ _ _ _ _ _ (omega (arith, here)) here c.loop-i.invariant c.if-skip-count.false
