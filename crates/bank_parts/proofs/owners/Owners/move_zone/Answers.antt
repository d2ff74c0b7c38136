use Rattle.bank_parts.proofs.ReadLaws.{read, are_read, held}
use Rattle.bank_parts.proofs.ZoneLaws.{zone_there, at_most, zone_bag_within, zone_moves}
use Rattle.bank_parts.proofs.owners.Owners.move_zone.Goals as goal

pub zone_bag-first-requires : goal.zone_bag-first-requires
zone_bag-first-requires g c = at_most c.args.self.now c.args.i c.args.from c.requires.from

pub zone_bag-second-requires : goal.zone_bag-second-requires
zone_bag-second-requires g c = at_most c.args.self.now c.args.i c.args.to c.requires.to

pub move_bag-requires-clause-from : goal.move_bag-requires-clause-from
move_bag-requires-clause-from g c =
    zone_bag_within (zone_there (held c.self.invariant c.self.view_is) c.args.i c.args.from c.requires.from)
    c.zone_bag-first.result c.zone_bag-first.ensures

pub move_bag-requires-clause-to : goal.move_bag-requires-clause-to
move_bag-requires-clause-to g c =
    zone_bag_within (zone_there (held c.self.invariant c.self.view_is) c.args.i c.args.to c.requires.to)
    c.zone_bag-second.result c.zone_bag-second.ensures

pub invariant_of-self : goal.invariant_of-self
invariant_of-self g c =
    let a = held c.self.invariant c.self.view_is in
    are_read (zone_moves a (zone_there a c.args.i c.args.from c.requires.from) c.args.to c.zone_bag-first.result
    c.zone_bag-second.result c.move_bag.new.self.owners
    c.zone_bag-first.ensures c.zone_bag-second.ensures c.move_bag.ensures.owners)

pub returns : goal.returns
returns g c =
    let a = held c.self.invariant c.self.view_is in
    read (zone_moves a (zone_there a c.args.i c.args.from c.requires.from) c.args.to c.zone_bag-first.result
    c.zone_bag-second.result c.move_bag.new.self.owners
    c.zone_bag-first.ensures c.zone_bag-second.ensures c.move_bag.ensures.owners)
