use Rattle.std.proofs.Common.{◌<◌, ◌+◌, slice_get, refl, arith}
use Rattle.generators.specs.Levels.{target_operator}
use Rattle.bank_parts.specs.declared.owners.ZonePlace.TheVariants as place
use Rattle.bank_parts.specs.Counts.{records_of_zone}
use Rattle.bank_parts.specs.Owners.{gens_at}
use Rattle.bank_parts.specs.ZoneChanges.{gen_set}
use Rattle.bank_parts.proofs.ReadLaws.{read, are_read, held}
use Rattle.bank_parts.proofs.MemberLaws.{bags_size}
use Rattle.bank_parts.proofs.OwnerLaws.{room_counted}
use Rattle.bank_parts.proofs.PlaceLaws.{zone_numbered}
use Rattle.bank_parts.proofs.PlaceChanges.{ordered}
use Rattle.bank_parts.proofs.StorableLaws.{zone_held}
use Rattle.bank_parts.proofs.ZoneLaws.{at_most, zone_owner_within, new_place}
use Rattle.bank_parts.proofs.NextZones.{NewPlace, index_fits, gen_limit, place_after, zone_is_put}
use Rattle.bank_parts.proofs.owners.Owners.set_gen_and_insert_zone.Goals.{After-put_gen}
use Rattle.bank_parts.proofs.owners.Owners.set_gen_and_insert_zone.Goals as goal

pub bag_count-count-requires : goal.bag_count-count-requires
bag_count-count-requires g c =
    let size = bags_size (held c.self.invariant c.self.view_is) in
    let within = zone_owner_within c.args.self.now c.args.i (λ n. c.args.k < n) c.requires.there in
    omega arith

pub zone_bag-at-requires : goal.zone_bag-at-requires
zone_bag-at-requires g c = at_most c.args.self.now c.args.i c.args.k c.requires.there

pub bag_entries-entries-requires-clause-bag : goal.bag_entries-entries-requires-clause-bag
bag_entries-entries-requires-clause-bag g c =
    zone_numbered (slice_get c.args.self.now c.args.i) c.zone_bag-at.result (place.Zone c.args.k) c.args.k refl
    c.zone_bag-at.ensures

pub search_entries-index-requires : goal.search_entries-index-requires
search_entries-index-requires g c =
    ordered (gens_at c.args.self.now c.args.i (place.Zone c.args.k)) c.bag_entries-entries.result.now
    c.bag_entries-entries.ensures

pub put_gen-requires : goal.put_gen-requires
put_gen-requires g c =
    let a = held c.self.invariant c.self.view_is in
    let room = c.in_ok-reserve.ensures.room.gens in
    let more = c.saturating_add.ensures in
    record {
      place =
          index_fits a c.args.i c.args.k c.zone_bag-at.result c.requires.there c.zone_bag-at.ensures c.args.operator
          c.args.amount c.args.next.now c.ranges.operator.fits c.ranges.amount.fits c.requires.storable
          c.bag_entries-entries.ensures c.reserve.ensures.owners c.search_entries-index.result
          c.search_entries-index.ensures.found c.search_entries-index.ensures.absent;
      room = omega (arith, room, more);
      limit =
          gen_limit a c.args.i c.args.k c.zone_bag-at.result c.requires.there c.zone_bag-at.ensures c.args.operator
          c.args.amount c.args.next.now c.ranges.operator.fits c.ranges.amount.fits c.requires.storable
          c.bag_entries-entries.ensures c.reserve.ensures.owners c.search_entries-index.result
          c.search_entries-index.ensures.absent;
    }

-- the place of the new zone, after the operator is set
after : (g : _) (c : After-put_gen g)
    → NewPlace (target_operator g.H.OwnerHead.LEVEL) c.self.inside.heads c.put_gen.new.bags.owners
    (gen_set c.args.self.now c.args.i (place.Zone c.args.k) c.args.operator c.args.amount) c.args.i (c.args.k + 1)
    (c.zone_bag-at.result + 1) c.args.next.now
after g c =
    let a = held c.self.invariant c.self.view_is in
    place_after a c.args.i c.args.k c.zone_bag-at.result c.requires.there c.zone_bag-at.ensures c.args.operator
    c.args.amount c.args.next.now c.ranges.operator.fits c.ranges.amount.fits c.requires.storable
    c.bag_entries-entries.ensures c.reserve.ensures.owners c.search_entries-index.result
    c.search_entries-index.ensures.found c.search_entries-index.ensures.absent c.put_gen.new.bags.owners
    c.put_gen.ensures.owners

pub insert_zone_bag-requires : goal.insert_zone_bag-requires
insert_zone_bag-requires g c =
    let p = after g (goal.at.insert_zone_bag-requires g c).After-put_gen in
    let more = c.records-more.result in
    let room = c.in_ok-reserve.ensures.room in
    let gens_more = c.saturating_add.ensures in
    let spare = c.put_gen.ensures.spare in
    let can =
    zone_held p.held p.zones (c.zone_bag-at.result + 1) c.args.next.now more p.number c.records-more.ensures
    c.requires.storable in
    let limit = can.gens in
    record {
      place = new_place p.held p.zones (c.zone_bag-at.result + 1) p.number refl;
      room =
          room_counted c.put_gen.new.bags (records_of_zone c.args.next.now) more c.records-more.ensures
          (record {
            held =
                can;
            zones =
                (let r = room.bags in let u = spare.bags in omega arith);
            gens =
                (let r = room.gens in let u = spare.gens in omega arith);
            mods = (let r = room.mods in let u = spare.mods in omega arith);
          });
    }

pub invariant_of-self-2 : goal.invariant_of-self-2
invariant_of-self-2 g c =
    are_read
    (zone_is_put (after g (goal.at.invariant_of-self-2 g c).After-put_gen) c.insert_zone_bag.new.bags.owners
    c.operator-target.ensures c.insert_zone_bag.ensures.owners)

pub returns-clause-ok : goal.returns-clause-ok
returns-clause-ok g c =
    read
    (zone_is_put (after g (goal.at.returns-clause-ok g c).After-put_gen) c.insert_zone_bag.new.bags.owners
    c.operator-target.ensures c.insert_zone_bag.ensures.owners)
