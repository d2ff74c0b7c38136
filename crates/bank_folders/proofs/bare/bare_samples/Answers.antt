use Rattle.bank_folders.proofs.ListLaws.{bare_on}
use Rattle.bank_folders.proofs.bare.bare_samples.Goals as goal

pub loop-line-preserved : goal.loop-line-preserved
loop-line-preserved c =
    bare_on c.args.lines.now c.loop-line.line-index c.line-item.result c.loop-line.bare.items c.push_bare.new.bare.items
    c.loop-line-test.true c.line-item.is c.loop-line.invariant c.in_ok-push_bare.ensures
