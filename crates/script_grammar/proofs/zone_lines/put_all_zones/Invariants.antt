use Rattle.std.proofs.Common.{drop}
use Rattle.std.specs.List.{flat_map}
use Rattle.base_outputs.proofs.OutputLaws.{Putting}
use Rattle.script_grammar.proofs.ZonePutLaws.{zone_text}
use Rattle.script_grammar.proofs.zone_lines.put_all_zones.Given as goal

-- the remaining zones are still to be written
abbrev pub invariant-loop-zone : goal.invariant-loop-zone
invariant-loop-zone g l =
    Putting g.W.Write.contents l.initial.output l.output (flat_map zone_text l.zones)
    (flat_map zone_text (drop l.zone-index l.zones))
