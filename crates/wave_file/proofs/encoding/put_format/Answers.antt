use Rattle.std.proofs.Common.{refl}
use Rattle.base_outputs.proofs.OutputLaws.{puts_as, puts_then}
use Rattle.wave_file.specs.Wave.{format, FORMAT}
use Rattle.wave_file.proofs.encoding.put_format.Goals as goal

pub returns : goal.returns
unfolding format FORMAT
returns g c = puts_as _ format
    (rw (
      c.to_le_bytes.ensures,
      c.to_le_bytes-2.ensures,
      c.to_le_bytes-3.ensures,
      c.to_le_bytes-4.ensures,
      c.to_le_bytes-5.ensures,
      c.to_le_bytes-6.ensures,
      c.to_le_bytes-7.ensures,
    )
    refl)
    (puts_then _ _ c.put.ensures
    (puts_then _ _ c.put-2.ensures (puts_then _ _ c.put-3.ensures (puts_then _ _ c.put-4.ensures
    (puts_then _ _ c.put-5.ensures (puts_then _ _ c.put-6.ensures (puts_then _ _ c.put-7.ensures c.put-8.ensures)))))))
