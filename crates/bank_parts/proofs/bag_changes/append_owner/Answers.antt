use Rattle.std.proofs.Common.{◌≡◌, ◌++◌, map, sym, subst, arith}
use Rattle.base_numbered_lists.specs.Moved.{changed}
use Rattle.bank_parts.specs.Counts.{records_of_owner, records_of_global}
use Rattle.bank_parts.specs.Bagged.{zone_bag, global_bags}
use Rattle.bank_parts.specs.Room.{HasRoom, records_of_zones}
use Rattle.bank_parts.proofs.RoomLaws.{room_at_most}
use Rattle.bank_parts.proofs.AppendLaws.{owner_opens, opened_within, changed_within, owner_appended}
use Rattle.bank_parts.proofs.bag_changes.append_owner.Goals as goal

pub append_global-requires : goal.append_global-requires
append_global-requires g c =
    let x = c.args.owner.now in
    let opened =
    owner_opens c.args.bags.now c.insert_empty_owner.new.self (records_of_owner x) c.owner_count-i.result
    c.owner_count-i.ensures c.insert_empty_owner.ensures.owners c.insert_empty_owner.ensures.spare c.requires.room in
    record {
      place =
          opened_within c.args.bags.now.owners c.insert_empty_owner.new.self.owners c.owner_count-i.result
          c.owner_count-i.ensures c.insert_empty_owner.ensures.owners;
      room =
          room_at_most c.insert_empty_owner.new.self (records_of_owner x) (records_of_global x.global) (omega arith)
          (omega arith) (omega arith) opened;
    }

pub append_zones-requires : goal.append_zones-requires
append_zones-requires g c =
    let x = c.args.owner.now in
    let opened =
    owner_opens c.args.bags.now c.insert_empty_owner.new.self (records_of_owner x) c.owner_count-i.result
    c.owner_count-i.ensures c.insert_empty_owner.ensures.owners c.insert_empty_owner.ensures.spare c.requires.room in
    let within =
    opened_within c.args.bags.now.owners c.insert_empty_owner.new.self.owners c.owner_count-i.result
    c.owner_count-i.ensures c.insert_empty_owner.ensures.owners in
    record {
      place =
          changed_within c.insert_empty_owner.new.self.owners c.append_global.new.bags.owners c.owner_count-i.result
          (λ own. own ++ global_bags x.global) within c.append_global.ensures.owners;
      room =
          subst (λ zones. HasRoom c.append_global.new.bags (records_of_zones zones)) (sym c.as_slice.ensures)
          (c.append_global.ensures.room (records_of_zones x.zones) opened);
    }

pub returns : goal.returns
returns g c =
    let x = c.args.owner.now in
    owner_appended c.args.operator x c.args.bags.now.owners c.insert_empty_owner.new.self.owners
    c.append_global.new.bags.owners c.append_zones.new.bags.owners c.owner_count-i.result
    c.owner_count-i.ensures c.insert_empty_owner.ensures.owners c.append_global.ensures.owners
    (subst
    (λ zones.
    c.append_zones.new.bags.owners
    ≡ changed c.append_global.new.bags.owners c.owner_count-i.result
    (λ own. own ++ map (zone_bag c.args.operator) zones))
    c.as_slice.ensures c.append_zones.ensures)
