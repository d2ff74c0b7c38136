use Rattle.base_outputs.proofs.OutputLaws.{putting_member}
use Rattle.script_of_bank.proofs.RemovalLines.{reset_lines, puts_reset_line}
use Rattle.script_of_bank.proofs.replacement.put_each_reset.Goals as goal

pub loop-id-preserved : goal.loop-id-preserved
loop-id-preserved g c =
    putting_member (reset_lines c.args.bank.now.texts) c.args.ids.now c.loop-id.id-index _ c.loop-id.invariant
    c.loop-id-test.true
    (puts_reset_line c.args.bank.now.texts _ _ c.info.ensures.value c.put_reset.ensures)
