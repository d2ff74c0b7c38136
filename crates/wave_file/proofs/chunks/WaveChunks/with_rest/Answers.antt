use Rattle.wave_file.specs.Wave.{DATA}
use Rattle.wave_file.specs.Kept.{kept}
use Rattle.wave_file.proofs.KeptLaws.{with_streamed}
use Rattle.wave_file.proofs.chunks.WaveChunks.with_rest.Goals as goal

pub invariant_of-result : goal.invariant_of-result
unfolding DATA
invariant_of-result c =
    with_streamed (kept c.args.bodies) (kept c.keep.new.self) c.args.window.now c.args.rest.now c.rest_from.result.now
    c.requires.cut c.requires.rest c.rest_from.ensures c.requires.found c.keep.ensures
