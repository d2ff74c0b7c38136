use Rattle.std.proofs.Common.{ap}
use Rattle.riff_chunks.specs.Encoding.{chunk}
use Rattle.bank_format.specs.Texts.{text_body}
use Rattle.base_outputs.proofs.OutputLaws.{puts_as, puts_then}
use Rattle.sf_writer.specs.Info.{text_id}
use Rattle.sf_writer.proofs.ChunkLaws.{put_even}
use Rattle.sf_writer.proofs.TextLaws.{text_body-even}
use Rattle.sf_writer.proofs.info.put_text.Goals as goal

pub returns : goal.returns
returns g c =
    puts_as _ _ (ap (λ text. chunk (text_id c.args.which) (text_body text)) c.info-text.ensures.value)
    (put_even _ _ (text_body c.info-text.result.now) _ c.id_of.ensures.value (text_body-even c.info-text.result.now)
    c.body_size.ensures c.head.ensures
    (puts_then _ _ c.put.ensures (puts_as _ _ c.text_end.ensures c.put-2.ensures)))
