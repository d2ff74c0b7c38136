use Rattle.bank_format.specs.Ids.{SDTA}
use Rattle.riff_chunks.specs.Walk.{LIST}
use Rattle.sf_writer.proofs.ChunkLaws.{put_form}
use Rattle.sf_writer.proofs.PointLaws.{length-SDTA, sdta-even}
use Rattle.sf_writer.proofs.points.put_sdta.Goals as goal

pub returns : goal.returns
unfolding LIST SDTA
returns g c =
    put_form _ _ _ _ length-SDTA (sdta-even c.args.bank.now) c.requires.size c.put_form_head.ensures
    c.put_smpl.ensures
