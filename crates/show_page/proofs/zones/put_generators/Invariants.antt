use Rattle.std.proofs.Common.{drop}
use Rattle.std.specs.List.{flat_map}
use Rattle.base_outputs.proofs.OutputLaws.{Putting}
use Rattle.show_page.specs.Zones.{generator_text}
use Rattle.show_page.proofs.zones.put_generators.Given as goal

-- the remaining ones are still to be written
abbrev pub invariant-loop-entry : goal.invariant-loop-entry
invariant-loop-entry g l =
    Putting g.W.Write.contents l.initial.output l.output (flat_map generator_text l.entries)
    (flat_map generator_text (drop l.entry-index l.entries))
