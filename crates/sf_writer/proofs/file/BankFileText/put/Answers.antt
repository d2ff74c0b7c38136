use Rattle.bank_format.specs.Ids.{RIFF, SFBK}
use Rattle.bank_format.specs.Canon.{canon}
use Rattle.sf_writer.proofs.ChunkLaws.{put_form}
use Rattle.sf_writer.proofs.FileLaws.{length-SFBK, lists-even}
use Rattle.sf_writer.proofs.file.BankFileText.put.Goals as goal

pub returns : goal.returns
unfolding canon RIFF SFBK
returns g c =
    put_form _ _ _ _ length-SFBK (lists-even c.args.self.now.0.now) c.of-sizes.ensures.file c.put_form_head.ensures
    c.put_lists.ensures
