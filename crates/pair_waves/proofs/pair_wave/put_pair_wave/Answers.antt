use Rattle.std.proofs.Common.{arith}
use Rattle.base_outputs.proofs.OutputLaws.{puts_as, puts_then}
use Rattle.wave_file.specs.Wave.{RIFF, WAVE, DATA}
use Rattle.pair_waves.proofs.SideLaws.{length-interleaved}
use Rattle.pair_waves.proofs.PairLaws.{length-content, put_parts}
use Rattle.pair_waves.proofs.pair_wave.put_pair_wave.Goals as goal

pub returns : goal.returns
unfolding RIFF WAVE DATA
returns g c =
    let left = c.args.left.now in
    let right = c.args.right.now in
    let whole = length-content left right c.requires.same in
    let sampler_size = c.sampler_size.ensures.value in
    let points = c.len.ensures.value in
    let bytes = length-interleaved left.points right.points c.requires.same in
    puts_as _ _ (put_parts left right c.requires.same _ _ (omega (arith, whole, sampler_size, points))
    (omega (arith, bytes, points)))
    (puts_then _ _ c.head.ensures (puts_then _ _ c.put.ensures (puts_then _ _ c.put_stereo_format.ensures
    (puts_then _ _ c.put_sampler.ensures (puts_then _ _ c.head-2.ensures c.put_frames.ensures)))))
