use Rattle.base_outputs.proofs.OutputLaws.{putting_from, putting_step, putting_end}
use Rattle.script_of_bank.specs.BankRemoval.{unlink_edits}
use Rattle.script_of_bank.proofs.RemovalLines.{reverse_start, reverse_at, reverse_over}
use Rattle.script_of_bank.proofs.replacement.put_unlinks.Goals as goal

pub loop-done-init : goal.loop-done-init
loop-done-init g c = putting_from _ _ (reverse_start unlink_edits c.args.samples.now)

pub loop-done-preserved : goal.loop-done-preserved
loop-done-preserved g c =
    putting_step _ _ c.loop-done.invariant
    (reverse_at unlink_edits c.args.samples.now c.loop-done.done _ c.loop-done-test.true
    c.index-samples-number.is)
    c.put_unlink.ensures

pub returns : goal.returns
returns g c =
    putting_end
    (rw (reverse_over unlink_edits c.args.samples.now c.loop-done.done c.loop-done-test.false) at
    c.loop-done.invariant)
