use Rattle.base_outputs.proofs.OutputLaws.{putting_step}
use Rattle.sf_writer.proofs.ChunkLaws.{encoding-next}
use Rattle.sf_writer.proofs.info.put_texts.Goals as goal

pub loop-which-preserved : goal.loop-which-preserved
loop-which-preserved g c =
    putting_step _ _ c.loop-which.invariant (encoding-next _ _ _ c.loop-which.which-index _ c.loop-which-test.true)
    c.put_optional_text.ensures
