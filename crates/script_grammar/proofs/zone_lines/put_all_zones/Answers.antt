use Rattle.script_grammar.proofs.ZonePutLaws.{zone_text, member_on}
use Rattle.script_grammar.proofs.zone_lines.put_all_zones.Goals as goal

pub loop-zone-preserved : goal.loop-zone-preserved
loop-zone-preserved g c =
    member_on zone_text c.args.zones.now _ c.loop-zone.zone-index c.loop-zone.invariant c.loop-zone-test.true
    c.zone-item.is c.put_zone.ensures
