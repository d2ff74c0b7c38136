use Rattle.std.proofs.Common.{refl}
use Rattle.base_outputs.proofs.OutputLaws.{puts_as, puts_then}
use Rattle.wave_file.specs.Wave.{head, RIFF, WAVE, DATA}
use Rattle.wave_file.proofs.encoding.put_head.Goals as goal

pub returns : goal.returns
unfolding head RIFF WAVE DATA
returns g c = puts_as _ (head c.args.size) (rw (c.to_le_bytes.ensures, c.to_le_bytes-2.ensures) refl)
    (puts_then _ _ c.put.ensures (puts_then _ _ c.put-2.ensures (puts_then _ _ c.put-3.ensures
    (puts_then _ _ c.put_format.ensures (puts_then _ _ c.put-4.ensures c.put-5.ensures)))))
