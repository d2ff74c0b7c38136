use Rattle.std.proofs.Common.{sym}
use Rattle.base_outputs.proofs.OutputLaws.{puts_as, puts_nothing, putting_step, putting_last}
use Rattle.script_of_bank.specs.BankEdits.{link_edits}
use Rattle.script_of_bank.proofs.TextLaws.{turns_at, turns_over}
use Rattle.script_of_bank.proofs.links.put_links.Goals as goal

pub loop-number-preserved : goal.loop-number-preserved
loop-number-preserved g c =
    putting_step _ _ c.loop-number.invariant
    (turns_at link_edits c.args.samples.now c.loop-number.number _ c.loop-number-test.true
    c.index-samples-number.is)
    c.put_link.ensures

pub returns : goal.returns
returns g c =
    putting_last c.loop-number.invariant
    (puts_as _ _ (sym (turns_over link_edits c.args.samples.now c.loop-number.number c.loop-number-test.false))
    (puts_nothing _))
