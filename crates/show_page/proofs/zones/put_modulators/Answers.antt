use Rattle.std.proofs.Common.{pos}
use Rattle.base_outputs.proofs.OutputLaws.{putting_member}
use Rattle.modulators.specs.declared.modulator.Modulator.{Modulator}
use Rattle.show_page.specs.Zones.{modulator_text}
use Rattle.show_page.proofs.Loops.{putting_all}
use Rattle.show_page.proofs.zones.put_modulators.Goals as goal

-- what an index past the end is read as
abbrev no_modulator : Modulator
no_modulator = record { source = 0; dest = 0; amount = pos 0; amount_source = 0; transform = 0 }

pub loop-modulator-preserved : goal.loop-modulator-preserved
loop-modulator-preserved g c =
    putting_member modulator_text c.args.mods.now c.loop-modulator.modulator-index no_modulator
    c.loop-modulator.invariant c.loop-modulator-test.true c.put_modulator.ensures

pub returns : goal.returns
returns g c =
    putting_all modulator_text c.args.mods.now c.loop-modulator.modulator-index c.loop-modulator.invariant
    c.loop-modulator-test.false
