use Rattle.base_outputs.proofs.OutputLaws.{putting_member}
use Rattle.script_of_bank.proofs.TextLaws.{text_lines, puts_text_line}
use Rattle.script_of_bank.proofs.texts.put_each_text.Goals as goal

pub loop-id-preserved : goal.loop-id-preserved
loop-id-preserved g c =
    putting_member (text_lines c.args.bank.now.texts) c.args.ids.now c.loop-id.id-index _ c.loop-id.invariant
    c.loop-id-test.true
    (puts_text_line c.args.bank.now.texts _ _ c.info.ensures.value c.put_text.ensures)
