use Rattle.std.proofs.Common.{arith}
use Rattle.sample_view.proofs.WordLaws.{length-word_bytes}
use Rattle.base_outputs.proofs.OutputLaws.{puts_as, puts_then}
use Rattle.wave_file.specs.Wave.{RIFF, WAVE, DATA}
use Rattle.wave_file.proofs.SampleLaws.{length-content, put-parts}
use Rattle.wave_file.proofs.sample.put_sample_wave.Goals as goal

pub returns : goal.returns
unfolding RIFF WAVE DATA
returns g c =
    let s = c.args.sample.now in
    let whole = length-content s in
    let sampler_size = c.sampler_size.ensures.value in
    let points = c.len.ensures.value in
    let bytes = length-word_bytes s.points in
    puts_as _ _ (put-parts s _ _ (omega (arith, whole, sampler_size, points)) (omega (arith, bytes, points)))
    (puts_then _ _ c.head.ensures (puts_then _ _ c.put.ensures (puts_then _ _ c.put_mono_format.ensures
    (puts_then _ _ c.put_sampler.ensures (puts_then _ _ c.head-2.ensures c.put_points.ensures)))))
