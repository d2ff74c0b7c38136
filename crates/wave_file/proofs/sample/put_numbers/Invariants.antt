use Rattle.std.proofs.Common.{drop}
use Rattle.base_outputs.proofs.OutputLaws.{Putting}
use Rattle.wave_file.specs.SampleWave.{numbers}
use Rattle.wave_file.proofs.sample.put_numbers.Given as goal

abbrev pub invariant-loop-number : goal.invariant-loop-number
invariant-loop-number g l =
    Putting g.W.Write.contents l.initial.output l.output (numbers l.values) (numbers (drop l.number-index l.values))
