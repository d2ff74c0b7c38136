use Rattle.bank_parts.proofs.ReadLaws.{read, are_read, held}
use Rattle.bank_parts.proofs.ZoneLaws.{zone_there, at_most, zone_bag_there, zone_some, zone_last, zone_target}
use Rattle.bank_parts.proofs.ZoneLaws.{target_changed}
use Rattle.bank_parts.proofs.owners.Owners.set_target.Goals as goal

pub zone_bag-at-requires : goal.zone_bag-at-requires
zone_bag-at-requires g c = at_most c.args.self.now c.args.i c.args.k c.requires

pub gens-gens-requires : goal.gens-gens-requires
gens-gens-requires g c =
    zone_bag_there (zone_there (held c.self.invariant c.self.view_is) c.args.i c.args.k c.requires)
    c.zone_bag-at.result c.zone_bag-at.ensures

pub overflow_sub-last : goal.overflow_sub-last
overflow_sub-last g c =
    zone_some (zone_there (held c.self.invariant c.self.view_is) c.args.i c.args.k c.requires) c.zone_bag-at.result
    c.gens-gens.result.now c.zone_bag-at.ensures c.gens-gens.ensures

pub set_gen-requires : goal.set_gen-requires
set_gen-requires g c =
    zone_last (zone_there (held c.self.invariant c.self.view_is) c.args.i c.args.k c.requires) c.zone_bag-at.result
    c.gens-gens.result.now c.zone_bag-at.ensures c.gens-gens.ensures

pub invariant_of-self : goal.invariant_of-self
invariant_of-self g c =
    let a = held c.self.invariant c.self.view_is in
    are_read (target_changed a (zone_there a c.args.i c.args.k c.requires) c.zone_bag-at.result
    c.operator-operator.result c.args.target c.gens-gens.result.now c.set_gen.new.self.owners
    c.zone_bag-at.ensures c.gens-gens.ensures c.operator-operator.ensures c.set_gen.ensures.owners)

pub returns-clause-change : goal.returns-clause-change
returns-clause-change g c =
    let a = held c.self.invariant c.self.view_is in
    read (target_changed a (zone_there a c.args.i c.args.k c.requires) c.zone_bag-at.result
    c.operator-operator.result c.args.target c.gens-gens.result.now c.set_gen.new.self.owners
    c.zone_bag-at.ensures c.gens-gens.ensures c.operator-operator.ensures c.set_gen.ensures.owners)

pub returns-clause-value : goal.returns-clause-value
returns-clause-value g c =
    zone_target (zone_there (held c.self.invariant c.self.view_is) c.args.i c.args.k c.requires) c.zone_bag-at.result
    c.last_amount-was.result c.gens-gens.result.now c.zone_bag-at.ensures c.gens-gens.ensures c.last_amount-was.ensures
