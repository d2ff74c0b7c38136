use Rattle.std.proofs.Common.{drop, map}
use Rattle.std.specs.List.{flat_map}
use Rattle.hydra_records.specs.Encoding.{bag_bytes}
use Rattle.bank_format.specs.FlatTables.{bag_of}
use Rattle.base_outputs.proofs.OutputLaws.{Putting}
use Rattle.sf_writer.proofs.zone_lists.put_bag_records.Given as goal

abbrev pub invariant-loop-gens : goal.invariant-loop-gens
invariant-loop-gens g l =
    Putting g.W.Write.contents l.initial.output l.output (flat_map bag_bytes (map bag_of l.bags))
    (flat_map bag_bytes (map bag_of (drop l.gens-index l.bags)))
