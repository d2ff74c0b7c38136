use Rattle.std.proofs.Common.{ap, ◌∙◌, flat_map}
use Rattle.wave_file.specs.Wave.{sample_bytes}
use Rattle.wave_file.proofs.PieceLaws.{putting_piece}
use Rattle.wave_file.proofs.encoding.put_samples.Goals as goal

pub loop-rest-preserved : goal.loop-rest-preserved
loop-rest-preserved g c = rw (c.split_at.ensures.back)
    (putting_piece sample_bytes _ c.loop-rest.rest.now c.loop-rest.invariant
    (c.write_i16_into.ensures ∙ ap (flat_map sample_bytes) c.split_at.ensures.front) c.put.ensures)
