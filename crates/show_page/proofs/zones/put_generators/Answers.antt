use Rattle.base_outputs.proofs.OutputLaws.{putting_member}
use Rattle.show_page.specs.Zones.{generator_text}
use Rattle.show_page.proofs.Loops.{putting_all}
use Rattle.show_page.proofs.zones.put_generators.Goals as goal

pub loop-entry-preserved : goal.loop-entry-preserved
loop-entry-preserved g c =
    putting_member generator_text c.args.entries.now c.loop-entry.entry-index (0, 0) c.loop-entry.invariant
    c.loop-entry-test.true c.put_generator.ensures

pub returns : goal.returns
returns g c =
    putting_all generator_text c.args.entries.now c.loop-entry.entry-index c.loop-entry.invariant
    c.loop-entry-test.false
