use Rattle.std.proofs.Common.{ap}
use Rattle.base_outputs.proofs.OutputLaws.{puts_as, putting_member}
use Rattle.show_page.specs.Samples.{sample_text}
use Rattle.show_page.proofs.Loops.{putting_all}
use Rattle.show_page.proofs.samples.put_samples.Goals as goal

pub loop-sample-preserved : goal.loop-sample-preserved
loop-sample-preserved g c =
    putting_member sample_text c.args.samples.now c.loop-sample.sample-index _ c.loop-sample.invariant
    c.loop-sample-test.true
    (puts_as _ _ (ap sample_text c.sample-item.is) c.put_sample.ensures)

pub returns : goal.returns
returns g c =
    putting_all sample_text c.args.samples.now c.loop-sample.sample-index c.loop-sample.invariant
    c.loop-sample-test.false
