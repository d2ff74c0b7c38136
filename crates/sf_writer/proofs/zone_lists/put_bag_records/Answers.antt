use Rattle.hydra_records.specs.Encoding.{bag_bytes}
use Rattle.bank_format.specs.FlatTables.{bag_of}
use Rattle.base_outputs.proofs.OutputLaws.{putting_step}
use Rattle.sf_writer.proofs.FlatLaws.{records_at}
use Rattle.sf_writer.proofs.zone_lists.put_bag_records.Goals as goal

pub loop-gens-preserved : goal.loop-gens-preserved
loop-gens-preserved g c =
    putting_step c.put.result _ c.loop-gens.invariant
    (records_at bag_bytes bag_of _ c.loop-gens.gens-index (0, 0) _ c.loop-gens-test.true c.put.ensures)
    c.put-in-loop-gens.ensures
