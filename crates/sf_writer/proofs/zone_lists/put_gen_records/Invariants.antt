use Rattle.std.proofs.Common.{drop, map}
use Rattle.std.specs.List.{flat_map}
use Rattle.hydra_records.specs.Encoding.{generator_bytes}
use Rattle.bank_format.specs.FlatTables.{generator_of}
use Rattle.base_outputs.proofs.OutputLaws.{Putting}
use Rattle.sf_writer.proofs.zone_lists.put_gen_records.Given as goal

abbrev pub invariant-loop-operator : goal.invariant-loop-operator
invariant-loop-operator g l =
    Putting g.W.Write.contents l.initial.output l.output (flat_map generator_bytes (map generator_of l.gens))
    (flat_map generator_bytes (map generator_of (drop l.operator-index l.gens)))
