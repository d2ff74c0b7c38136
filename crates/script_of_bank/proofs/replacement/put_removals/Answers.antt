use Rattle.base_outputs.proofs.OutputLaws.{putting_step, putting_end}
use Rattle.script_of_bank.proofs.RemovalLines.{removals_at, removals_over}
use Rattle.script_of_bank.proofs.replacement.put_removals.Goals as goal

pub loop-done-preserved : goal.loop-done-preserved
loop-done-preserved g c =
    putting_step _ _ c.loop-done.invariant
    (removals_at c.args.word.now c.args.count c.loop-done.done c.loop-done-test.true) c.put_line.ensures

pub returns : goal.returns
returns g c =
    putting_end
    (rw (removals_over c.args.word.now c.args.count c.loop-done.done c.loop-done-test.false) at
    c.loop-done.invariant)
