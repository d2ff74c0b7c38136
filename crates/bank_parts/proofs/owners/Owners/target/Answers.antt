use Rattle.bank_parts.proofs.ReadLaws.{held}
use Rattle.bank_parts.proofs.ZoneLaws.{zone_there, at_most, zone_bag_there, zone_target}
use Rattle.bank_parts.proofs.owners.Owners.target.Goals as goal

pub zone_bag-at-requires : goal.zone_bag-at-requires
zone_bag-at-requires g c = at_most c.args.self.now c.args.i c.args.k c.requires

pub gens-requires : goal.gens-requires
gens-requires g c =
    zone_bag_there (zone_there (held c.self.invariant c.self.view_is) c.args.i c.args.k c.requires)
    c.zone_bag-at.result c.zone_bag-at.ensures

pub returns : goal.returns
returns g c =
    zone_target (zone_there (held c.self.invariant c.self.view_is) c.args.i c.args.k c.requires) c.zone_bag-at.result
    c.last_amount.result c.gens.result.now
    c.zone_bag-at.ensures c.gens.ensures c.last_amount.ensures
