use Rattle.bank_format.specs.Ids.{INFO}
use Rattle.riff_chunks.specs.Walk.{LIST}
use Rattle.sf_writer.proofs.ChunkLaws.{put_form}
use Rattle.sf_writer.proofs.TextLaws.{length-INFO, info-even}
use Rattle.sf_writer.proofs.info.put_info.Goals as goal

pub returns : goal.returns
unfolding LIST INFO
returns g c =
    put_form _ _ _ _ length-INFO (info-even c.args.bank.now) c.requires c.put_form_head.ensures c.put_chunks.ensures
