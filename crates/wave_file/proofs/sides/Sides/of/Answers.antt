use Rattle.std.proofs.Common.{refl}
use Rattle.sample_view.specs.Words.{words}
use Rattle.wave_file.proofs.sides.Sides.of.Goals as goal

pub returns-in-Mono : goal.returns-in-Mono
unfolding words
returns-in-Mono c = rw (c.in-Mono.is, c.new.ensures.items, c.new-in-Mono.ensures.items) refl

pub returns-in_ok-points-in-MonoSamples : goal.returns-in_ok-points-in-MonoSamples
unfolding words
returns-in_ok-points-in-MonoSamples c =
    rw (c.in-MonoSamples.is, c.in_ok-points-in-MonoSamples.ensures.value, c.new-in-MonoSamples.ensures.items) refl
