use Rattle.base_outputs.proofs.OutputLaws.{putting_member}
use Rattle.script_grammar.proofs.ZonePutLaws.{generator_text}
use Rattle.script_grammar.proofs.zone_lines.put_generators.Goals as goal

pub loop-entry-preserved : goal.loop-entry-preserved
loop-entry-preserved g c =
    putting_member generator_text c.args.entries.now c.loop-entry.entry-index _ c.loop-entry.invariant
    c.loop-entry-test.true c.put_generator_item.ensures
