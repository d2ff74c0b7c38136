use Rattle.base_outputs.proofs.OutputLaws.{puts_row, puts_then}
use Rattle.sf_writer.proofs.TextLaws.{info-parts}
use Rattle.sf_writer.proofs.info.put_chunks.Goals as goal

pub returns : goal.returns
returns g c =
    puts_row _ _ _ (info-parts c.args.bank.now) c.put_version.ensures
    (puts_then _ _ c.put_text.ensures (puts_then _ _ c.put_text-2.ensures c.put_texts.ensures))
