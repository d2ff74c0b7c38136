use Rattle.base_outputs.proofs.OutputLaws.{puts_row, puts_then}
use Rattle.sf_writer.proofs.FileLaws.{lists-is}
use Rattle.sf_writer.proofs.file.put_lists.Goals as goal

pub returns : goal.returns
returns g c =
    puts_row _ _ _ (lists-is c.args.bank.now) c.put_info.ensures
    (puts_then _ _ c.put_sdta.ensures c.put_pdta.ensures)
