use Rattle.std.proofs.Common.{suc, drop, sym, subst, add-one}
use Rattle.bank_parts.specs.Room.{records_of_zones}
use Rattle.bank_parts.proofs.AppendLaws.{AreAppended, found_item, none_appended_yet, appended_within, zone_needs}
use Rattle.bank_parts.proofs.AppendLaws.{zone_alone, one_more_appended, all_appended, last_place}
use Rattle.bank_parts.proofs.bag_changes.append_zones.Goals as goal

pub loop-zone-init : goal.loop-zone-init
loop-zone-init c =
    none_appended_yet c.args.bags.now c.args.i c.args.operator c.args.zones.now c.requires.place c.requires.room

pub bag_count-count-requires : goal.bag_count-count-requires
bag_count-count-requires c =
    appended_within c.args.bags.now.owners c.loop-zone.bags c.args.i c.args.operator c.loop-zone.zone-index
    c.args.zones.now c.requires.place c.loop-zone.invariant

pub insert_zone_bag-requires : goal.insert_zone_bag-requires
insert_zone_bag-requires c =
    let k = c.loop-zone.zone-index in
    let zones = c.args.zones.now in
    let h = c.loop-zone.invariant in
    let there = found_item zones k c.zone-item.result c.zone-item.is c.loop-zone-test.true in
    let within =
    appended_within c.args.bags.now.owners c.loop-zone.bags c.args.i c.args.operator k zones c.requires.place h
    in
    record {
      place = last_place c.loop-zone.bags.owners c.args.i c.bag_count-count.result within c.bag_count-count.ensures;
      room =
          zone_alone c.loop-zone.bags c.zone-item.result (records_of_zones (drop (suc k) zones))
          (zone_needs c.loop-zone.bags k zones c.zone-item.result there h.room);
    }

pub loop-zone-preserved : goal.loop-zone-preserved
loop-zone-preserved c =
    let k = c.loop-zone.zone-index in
    let zones = c.args.zones.now in
    let h = c.loop-zone.invariant in
    let there = found_item zones k c.zone-item.result c.zone-item.is c.loop-zone-test.true in
    let left =
    c.insert_zone_bag.ensures.room (records_of_zones (drop (suc k) zones))
    (zone_needs c.loop-zone.bags k zones c.zone-item.result there h.room) in
    subst (λ n. AreAppended c.args.bags.now.owners c.insert_zone_bag.new.bags c.args.i c.args.operator n zones)
    (sym (add-one k))
    (one_more_appended c.args.bags.now.owners c.loop-zone.bags c.insert_zone_bag.new.bags c.args.i c.args.operator k
    c.bag_count-count.result zones c.zone-item.result c.requires.place h there
    c.bag_count-count.ensures c.insert_zone_bag.ensures.owners left)

pub returns : goal.returns
returns c =
    all_appended c.args.bags.now.owners c.loop-zone.bags c.args.i c.args.operator c.loop-zone.zone-index
    c.args.zones.now c.loop-zone.invariant c.loop-zone-test.false
