use Rattle.bank_parts.proofs.ReadLaws.{read, are_read, held}
use Rattle.bank_parts.proofs.ZoneLaws.{zone_there, at_most, zone_bag_there, zone_bag_removed}
use Rattle.bank_parts.proofs.owners.Owners.remove_zone.Goals as goal

pub zone_bag-at-requires : goal.zone_bag-at-requires
zone_bag-at-requires g c = at_most c.args.self.now c.args.i c.args.k c.requires

pub cut_bag-requires : goal.cut_bag-requires
cut_bag-requires g c =
    zone_bag_there (zone_there (held c.self.invariant c.self.view_is) c.args.i c.args.k c.requires)
    c.zone_bag-at.result c.zone_bag-at.ensures

pub invariant_of-self : goal.invariant_of-self
invariant_of-self g c =
    let a = held c.self.invariant c.self.view_is in
    are_read
    (zone_bag_removed a (zone_there a c.args.i c.args.k c.requires) c.zone_bag-at.result c.cut_bag.new.self.owners
    c.zone_bag-at.ensures c.cut_bag.ensures.owners)

pub returns-clause-change : goal.returns-clause-change
returns-clause-change g c =
    let a = held c.self.invariant c.self.view_is in
    read
    (zone_bag_removed a (zone_there a c.args.i c.args.k c.requires) c.zone_bag-at.result c.cut_bag.new.self.owners
    c.zone_bag-at.ensures c.cut_bag.ensures.owners)
