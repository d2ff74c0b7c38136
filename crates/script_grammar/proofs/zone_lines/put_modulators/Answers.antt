use Rattle.base_outputs.proofs.OutputLaws.{putting_member}
use Rattle.script_grammar.proofs.ZonePutLaws.{modulator_text}
use Rattle.script_grammar.proofs.zone_lines.put_modulators.Goals as goal

pub loop-modulator-preserved : goal.loop-modulator-preserved
loop-modulator-preserved g c =
    putting_member modulator_text c.args.mods.now c.loop-modulator.modulator-index _ c.loop-modulator.invariant
    c.loop-modulator-test.true c.put_modulator_item.ensures
