use Rattle.std.proofs.Common.{◌≤◌, ◌+◌, drop}
use Rattle.std.specs.List.{flat_map}
use Rattle.hydra_records.specs.Encoding.{sample_head_bytes}
use Rattle.bank_parts.specs.Valid.{point_total}
use Rattle.bank_format.specs.Tables.{tables_of}
use Rattle.base_outputs.proofs.OutputLaws.{Putting}
use Rattle.sf_writer.proofs.RecordLaws.{remaining_heads}
use Rattle.sf_writer.proofs.sample_heads.put_heads.Given as goal

abbrev pub invariant-loop-sample : goal.invariant-loop-sample
invariant-loop-sample g l = record {
  putting : Putting g.W.Write.contents l.initial.output l.output (flat_map sample_head_bytes (tables_of l.bank).shdr)
      (remaining_heads l.start l.sample-index l.samples);
  room : l.start + point_total (drop l.sample-index l.samples) ≤ 500000000;
}
