use Rattle.std.proofs.Common.{sym}
use Rattle.std.proofs.lemmas.List.{append-nil}
use Rattle.base_outputs.proofs.OutputLaws.{puts_as, puts_nothing, putting_step, putting_last}
use Rattle.script_of_bank.specs.BankScript.{selected_edits}
use Rattle.script_of_bank.proofs.TextLaws.{turns_at, turns_over}
use Rattle.script_of_bank.proofs.samples.put_samples.Goals as goal

pub loop-number-preserved : goal.loop-number-preserved
loop-number-preserved g c =
    putting_step _ _ c.loop-number.invariant
    (turns_at (selected_edits c.args.points) c.args.samples.now c.loop-number.number _ c.loop-number-test.true
    c.index-samples-number.is)
    (puts_as _ _ (sym (append-nil _)) c.put_sample.ensures)

pub returns : goal.returns
returns g c =
    putting_last c.loop-number.invariant
    (puts_as _ _
    (sym
    (turns_over (selected_edits c.args.points) c.args.samples.now c.loop-number.number
    c.loop-number-test.false))
    (puts_nothing _))
