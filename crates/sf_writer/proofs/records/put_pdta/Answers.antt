use Rattle.bank_format.specs.Ids.{PDTA}
use Rattle.riff_chunks.specs.Walk.{LIST}
use Rattle.sf_writer.proofs.ChunkLaws.{put_form}
use Rattle.sf_writer.proofs.RecordLaws.{length-PDTA, pdta-even}
use Rattle.sf_writer.proofs.records.put_pdta.Goals as goal

pub returns : goal.returns
unfolding LIST PDTA
returns g c =
    put_form _ _ _ _ length-PDTA (pdta-even c.args.bank.now) c.requires.pdta c.put_form_head.ensures
    c.put_lists.ensures
