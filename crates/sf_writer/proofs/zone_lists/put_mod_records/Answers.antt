use Rattle.base_outputs.proofs.OutputLaws.{putting_step}
use Rattle.sf_writer.proofs.FlatLaws.{mods_at}
use Rattle.sf_writer.proofs.zone_lists.put_mod_records.Goals as goal

pub loop-modulator-preserved : goal.loop-modulator-preserved
loop-modulator-preserved g c =
    putting_step c.put.result _ c.loop-modulator.invariant
    (mods_at _ c.loop-modulator.modulator-index _ _ c.loop-modulator-test.true c.put.ensures)
    c.put-in-loop-modulator.ensures
