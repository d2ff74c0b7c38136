use Rattle.std.proofs.Common.{drop}
use Rattle.std.specs.List.{flat_map}
use Rattle.base_outputs.proofs.OutputLaws.{Putting}
use Rattle.show_page.specs.Zones.{modulator_text}
use Rattle.show_page.proofs.zones.put_modulators.Given as goal

-- the remaining ones are still to be written
abbrev pub invariant-loop-modulator : goal.invariant-loop-modulator
invariant-loop-modulator g l =
    Putting g.W.Write.contents l.initial.output l.output (flat_map modulator_text l.mods)
    (flat_map modulator_text (drop l.modulator-index l.mods))
