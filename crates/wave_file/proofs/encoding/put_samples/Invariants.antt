use Rattle.std.proofs.Common.{length}
use Rattle.std.specs.List.{flat_map}
use Rattle.base_outputs.proofs.OutputLaws.{Putting}
use Rattle.wave_file.specs.Wave.{sample_bytes}
use Rattle.wave_file.proofs.encoding.put_samples.Given as goal

abbrev pub invariant-loop-rest : goal.invariant-loop-rest
invariant-loop-rest g l =
    Putting g.W.Write.contents l.initial.output l.output (flat_map sample_bytes l.fn.samples)
    (flat_map sample_bytes l.rest)

abbrev pub decreases-loop-rest : goal.decreases-loop-rest
decreases-loop-rest g l = length l.rest
