use Rattle.std.proofs.Common.{drop}
use Rattle.std.specs.List.{flat_map}
use Rattle.sample_view.specs.Words.{word_bytes}
use Rattle.base_outputs.proofs.OutputLaws.{Putting}
use Rattle.bank_format.specs.Tables.{points_written}
use Rattle.sf_writer.proofs.points.put_samples.Given as goal

abbrev pub invariant-loop-sample : goal.invariant-loop-sample
invariant-loop-sample g l =
    Putting g.W.Write.contents l.initial.output l.output (flat_map word_bytes (flat_map points_written l.samples))
    (flat_map word_bytes (flat_map points_written (drop l.sample-index l.samples)))
