use Rattle.std.proofs.Common.{◌≤◌, sym, subst}
use Rattle.bank_parts.specs.Bagged.{IsPlain}
use Rattle.bank_parts.specs.Counts.{records_of_zone}
use Rattle.bank_parts.proofs.ReadLaws.{read, are_read, held}
use Rattle.bank_parts.proofs.ZoneLaws.{zones_there, new_place, zone_put}
use Rattle.bank_parts.proofs.OwnerLaws.{room_counted}
use Rattle.bank_parts.proofs.StorableLaws.{zone_held, zone_in}
use Rattle.bank_parts.proofs.owners.Owners.insert_zone.Goals as goal

pub make_room-requires : goal.make_room-requires
make_room-requires g c =
    let a = held c.self.invariant c.self.view_is in
    let s = zones_there a c.args.i (λ n. c.args.k ≤ n) c.requires.place in
    zone_held a s c.zone_bag-at.result c.args.zone c.records.result c.zone_bag-at.ensures c.records.ensures
    c.requires.storable

pub insert_zone_bag-requires : goal.insert_zone_bag-requires
insert_zone_bag-requires g c =
    let a = held c.self.invariant c.self.view_is in
    let s = zones_there a c.args.i (λ n. c.args.k ≤ n) c.requires.place in
    record {
      place = new_place a s c.zone_bag-at.result c.zone_bag-at.ensures c.make_room.ensures.kept;
      room =
          room_counted c.make_room.new.bags (records_of_zone c.args.zone) c.records.result c.records.ensures
          c.in-Ok.ensures.room;
    }

pub invariant_of-self-2 : goal.invariant_of-self-2
invariant_of-self-2 g c =
    let a = held c.self.invariant c.self.view_is in
    let s = zones_there a c.args.i (λ n. c.args.k ≤ n) c.requires.place in
    let plain = subst (λ op. IsPlain op c.args.zone.gens) (sym c.operator-operator.ensures)
    (zone_in c.args.self.now c.args.i c.args.k s.found.owner c.args.zone s.found.there c.requires.storable) in
    are_read
    (zone_put a s c.zone_bag-at.result c.args.zone c.insert_zone_bag.new.bags.owners c.zone_bag-at.ensures
    c.operator-operator.ensures plain c.make_room.ensures.kept c.insert_zone_bag.ensures.owners)

pub returns-clause-ok : goal.returns-clause-ok
returns-clause-ok g c =
    let a = held c.self.invariant c.self.view_is in
    let s = zones_there a c.args.i (λ n. c.args.k ≤ n) c.requires.place in
    let plain = subst (λ op. IsPlain op c.args.zone.gens) (sym c.operator-operator.ensures)
    (zone_in c.args.self.now c.args.i c.args.k s.found.owner c.args.zone s.found.there c.requires.storable) in
    read
    (zone_put a s c.zone_bag-at.result c.args.zone c.insert_zone_bag.new.bags.owners c.zone_bag-at.ensures
    c.operator-operator.ensures plain c.make_room.ensures.kept c.insert_zone_bag.ensures.owners)
