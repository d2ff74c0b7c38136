use Rattle.std.proofs.Common.{drop}
use Rattle.std.specs.List.{flat_map}
use Rattle.hydra_records.specs.Encoding.{modulator_bytes}
use Rattle.base_outputs.proofs.OutputLaws.{Putting}
use Rattle.sf_writer.proofs.zone_lists.put_mod_records.Given as goal

abbrev pub invariant-loop-modulator : goal.invariant-loop-modulator
invariant-loop-modulator g l =
    Putting g.W.Write.contents l.initial.output l.output (flat_map modulator_bytes l.mods)
    (flat_map modulator_bytes (drop l.modulator-index l.mods))
