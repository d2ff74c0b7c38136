use Rattle.script_grammar.proofs.ZonePutLaws.{puts_zones}
use Rattle.script_grammar.proofs.zone_lines.put_zones.Goals as goal

pub returns : goal.returns
returns g c = puts_zones c.args.global.now c.args.zones.now c.put_global.ensures c.put_all_zones.ensures
