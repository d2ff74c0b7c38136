use Rattle.std.proofs.Common.{arith}
use Rattle.wave_file.proofs.SampleLaws.{length-sampler}
use Rattle.wave_file.proofs.sample.sampler_size.Goals as goal

pub returns-clause-value : goal.returns-clause-value
returns-clause-value c = omega (arith, length-sampler c.args.sample.now, c.loop_count.ensures.value)
