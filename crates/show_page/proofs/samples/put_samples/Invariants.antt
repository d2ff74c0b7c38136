use Rattle.std.proofs.Common.{drop}
use Rattle.std.specs.List.{flat_map}
use Rattle.base_outputs.proofs.OutputLaws.{Putting}
use Rattle.show_page.specs.Samples.{sample_text}
use Rattle.show_page.proofs.samples.put_samples.Given as goal

-- the lines of the remaining samples are still to be written
abbrev pub invariant-loop-sample : goal.invariant-loop-sample
invariant-loop-sample g l =
    Putting g.W.Write.contents l.initial.output l.output (flat_map sample_text l.samples)
    (flat_map sample_text (drop l.sample-index l.samples))
