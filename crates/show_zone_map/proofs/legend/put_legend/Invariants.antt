use Rattle.std.proofs.Common.{drop}
use Rattle.std.specs.List.{flat_map, enumerate_from}
use Rattle.base_outputs.proofs.OutputLaws.{Putting}
use Rattle.show_zone_map.specs.Picture.{entry, legend_text}
use Rattle.show_zone_map.proofs.legend.put_legend.Given as goal

-- the entries of the remaining samples are still to be written
abbrev pub invariant-loop-entry : goal.invariant-loop-entry
invariant-loop-entry g l =
    Putting g.W.Write.contents l.initial.output l.output (legend_text l.bank l.samples)
    (flat_map (entry l.bank) (enumerate_from l.entry (drop l.entry l.samples)))
