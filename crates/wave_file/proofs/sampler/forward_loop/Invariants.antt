use Rattle.std.proofs.Common.{◌≡◌}
use Rattle.std.specs.Prelude.{◌==◌, find}
use Rattle.wave_file.specs.declared.sampler_loop.SamplerLoop.{SamplerLoop}
use Rattle.wave_file.specs.Recordings.{forward_loop}
use Rattle.wave_file.proofs.sampler.forward_loop.Given as goal

-- the first forward loop is among the remaining loops
abbrev pub invariant-loop-found : goal.invariant-loop-found
invariant-loop-found l =
    (goal.iterator-loop-found).can_next l.found-iterator
    × (goal.iterator-loop-found).is_finite l.found-iterator
    × (find (λ (x : SamplerLoop). x.kind == 0) l.found-iterator ≡ forward_loop l.chunk)
