use Rattle.std.proofs.Common.{refl}
use Rattle.base_outputs.proofs.OutputLaws.{puts_as, puts_then}
use Rattle.riff_chunks.specs.Encoding.{pad, chunk}
use Rattle.wave_file.specs.Wave.{FORMAT}
use Rattle.pair_waves.specs.PairWave.{stereo_format}
use Rattle.pair_waves.proofs.pair_wave.put_stereo_format.Goals as goal

pub returns : goal.returns
unfolding stereo_format FORMAT pad
returns g c =
    puts_as _ (chunk FORMAT (stereo_format c.args.rate))
    (rw (c.to_le_bytes.ensures, c.to_le_bytes-2.ensures, c.saturating_mul.ensures) refl)
    (puts_then _ _ c.head.ensures
    (puts_then _ _ c.put.ensures (puts_then _ _ c.put-2.ensures (puts_then _ _ c.put-3.ensures c.put-4.ensures))))
