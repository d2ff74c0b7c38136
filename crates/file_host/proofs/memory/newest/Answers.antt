use Rattle.std.proofs.Common.{rules}
use Rattle.file_host.proofs.FileLaws.{newest_step}
use Rattle.file_host.proofs.memory.newest.Goals as goal
use Rattle.file_host.proofs.memory.newest.Goals.{then-eq, else-eq}

pub loop-entry-preserved : goal.loop-entry-preserved
loop-entry-preserved c =
    elim c.if-eq.branch [
      | then-eq w ↦ newest_step c.args.entries.now c.loop-entry.entry-index c.entry-item.result c.args.path.now
          c.eq.result _ _ c.loop-entry-test.true c.entry-item.is (search rules) c.loop-entry.invariant (search rules)
      | else-eq w ↦ newest_step c.args.entries.now c.loop-entry.entry-index c.entry-item.result c.args.path.now
          c.eq.result _ _ c.loop-entry-test.true c.entry-item.is (search rules) c.loop-entry.invariant (search rules)
    ]
