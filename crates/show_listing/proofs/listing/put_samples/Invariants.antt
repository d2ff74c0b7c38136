use Rattle.std.proofs.Common.{drop}
use Rattle.std.specs.Option.{option_copied}
use Rattle.base_outputs.proofs.OutputLaws.{Putting}
use Rattle.show_listing.specs.Listing.{lines_from}
use Rattle.show_listing.specs.Details.{sample_lines}
use Rattle.show_listing.proofs.listing.put_samples.Given as goal

-- the lines of the remaining samples are still to be written
abbrev pub invariant-loop-number : goal.invariant-loop-number
invariant-loop-number g l =
    Putting g.W.Write.contents l.initial.output l.output
    (lines_from (sample_lines (option_copied l.uses)) 0 l.samples)
    (lines_from (sample_lines (option_copied l.uses)) l.number (drop l.number l.samples))
