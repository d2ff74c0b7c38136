use Rattle.std.specs.List.{flat_map}
use Rattle.base_outputs.proofs.OutputLaws.{Putting}
use Rattle.show_sample.specs.Waves.{bar, wave}
use Rattle.show_sample.proofs.Ranges.{from}
use Rattle.show_sample.proofs.waves.put_wave.Given as goal

-- the remaining columns are still to be written
abbrev pub invariant-loop-number : goal.invariant-loop-number
invariant-loop-number g l =
    Putting g.W.Write.contents l.initial.output l.output (wave l.points l.width)
    (flat_map (bar l.points l.width l.count) (from l.number l.count))
