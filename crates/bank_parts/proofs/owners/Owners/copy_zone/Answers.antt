use Rattle.bank_parts.specs.Owners.{zone_at}
use Rattle.bank_parts.proofs.CopyLaws.{zone_of}
use Rattle.bank_parts.proofs.owners.Owners.copy_zone.Goals as goal

pub returns : goal.returns
returns g c =
    zone_of (zone_at c.args.self.now c.args.i c.args.k) c.target-target.result c.in_ok-gens.gens c.in_ok-mods.mods
    c.target-target.ensures c.in_ok-gens.ensures c.in_ok-mods.ensures
