use Rattle.std.proofs.Common.{sym}
use Rattle.std.specs.Option.{option_copied}
use Rattle.base_outputs.proofs.OutputLaws.{puts_as, puts_nothing, putting_step, putting_last}
use Rattle.show_listing.specs.Details.{sample_lines}
use Rattle.show_listing.proofs.ListLaws.{lines_at, lines_over}
use Rattle.show_listing.proofs.listing.put_samples.Goals as goal

pub loop-number-preserved : goal.loop-number-preserved
loop-number-preserved g c =
    putting_step _ _ c.loop-number.invariant
    (lines_at (sample_lines (option_copied c.args.uses)) c.args.samples.now c.loop-number.number _
    c.loop-number-test.true c.index-samples-number.is)
    c.put_sample_lines.ensures

pub returns : goal.returns
returns g c =
    putting_last c.loop-number.invariant
    (puts_as _ _
    (sym
    (lines_over (sample_lines (option_copied c.args.uses)) c.args.samples.now c.loop-number.number
    c.loop-number-test.false))
    (puts_nothing _))
