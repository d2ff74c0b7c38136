use Rattle.script_of_bank.proofs.ZoneLaws.{puts_zones_of}
use Rattle.script_of_bank.proofs.zones.put_zones_of.Goals as goal

pub returns : goal.returns
returns g c =
    puts_zones_of c.args.owners.now c.args.i _ _ _ _ c.requires c.put_global_of.ensures c.put_own_zones.ensures
