use Rattle.std.proofs.Common.{ℕ, ◌++◌, ap, sym, ◌∙◌}
use Rattle.base_outputs.proofs.OutputLaws.{puts_row, puts_then}
use Rattle.riff_chunks.specs.Encoding.{chunk_head}
use Rattle.wave_file.specs.SampleWave.{SAMPLER, sampler}
use Rattle.wave_file.proofs.SampleLaws.{chunk-even, sampler-even}
use Rattle.wave_file.proofs.sample.put_sampler.Goals as goal

pub returns : goal.returns
unfolding SAMPLER
returns g c =
    let s = c.args.sample.now in
    puts_row _ _ _
    (chunk-even SAMPLER (sampler s) (sampler-even s)
    ∙ ap (λ (n : ℕ). chunk_head SAMPLER n ++ sampler s) (sym c.sampler_size.ensures.value))
    c.head.ensures
    (puts_then _ _ c.put_sampler_head.ensures (puts_then _ _ c.put_loop.ensures c.put_stored_pitch.ensures))
