use Rattle.hydra_records.specs.Encoding.{generator_bytes}
use Rattle.bank_format.specs.FlatTables.{generator_of}
use Rattle.base_outputs.proofs.OutputLaws.{putting_step}
use Rattle.sf_writer.proofs.FlatLaws.{records_at}
use Rattle.sf_writer.proofs.zone_lists.put_gen_records.Goals as goal

pub loop-operator-preserved : goal.loop-operator-preserved
loop-operator-preserved g c =
    putting_step c.put.result _ c.loop-operator.invariant
    (records_at generator_bytes generator_of _ c.loop-operator.operator-index (0, 0) _ c.loop-operator-test.true
    c.put.ensures)
    c.put-in-loop-operator.ensures
