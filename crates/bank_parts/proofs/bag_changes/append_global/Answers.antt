use Rattle.std.proofs.Common.{◌≡◌, [], ◌++◌, length, append-nil, ap, ◌∙◌, arith}
use Rattle.std.specs.FinMap.{len-entries}
use Rattle.base_numbered_lists.proofs.Lists.{slice_get-found}
use Rattle.flat_records.specs.Bags.{Bag}
use Rattle.bank_parts.specs.Counts.{records_of_global, records_sum}
use Rattle.bank_parts.specs.Bagged.{global_bags, global_bag}
use Rattle.bank_parts.proofs.RoomLaws.{room_at_most}
use Rattle.bank_parts.proofs.AppendLaws.{none_appended, global_needs, no_bag_of, one_bag_of, one_counted_global}
use Rattle.bank_parts.proofs.AppendLaws.{last_place, global_is_put, global_leaves}
use Rattle.bank_parts.proofs.bag_changes.append_global.Goals as goal

pub returns-then-is_empty : goal.returns-then-is_empty
returns-then-is_empty c =
    let g = c.args.global.now in
    let (own, there) = slice_get-found c.args.bags.now.owners c.args.i c.requires.place in
    record {
      owners =
          none_appended c.args.bags.now.owners c.args.i own there (global_bags g)
          (no_bag_of g c.is_empty.result c.is_empty.ensures c.if-is_empty.true);
      room =
          λ more h.
          room_at_most c.args.bags.now (records_sum (records_of_global g) more) more (omega arith) (omega arith)
          (omega arith) h;
    }

pub put_bag-requires : goal.put_bag-requires
put_bag-requires c =
    let g = c.args.global.now in
    let room =
    global_needs g c.is_empty.result c.is_empty.ensures c.args.bags.now c.if-is_empty.false c.requires.room in
    let gens = ap length c.entries.ensures.all in
    let size = len-entries g.gens in
    let mods = ap length c.as_slice.ensures in
    record {
      place =
          last_place c.args.bags.now.owners c.args.i c.bag_count-count.result c.requires.place
          c.bag_count-count.ensures;
      bags = omega arith;
      gens = omega arith;
      mods = omega arith;
      bags_limit = omega arith;
      gens_limit = omega arith;
      mods_limit = omega arith;
    }

pub returns : goal.returns
returns c =
    let g = c.args.global.now in
    let b : Bag = record { gens = c.entries.result.now ++ []; mods = c.as_slice.result.now } in
    let entries = append-nil c.entries.result.now ∙ c.entries.ensures.all in
    let same : b ≡ global_bag g = λ t. record { gens = entries t; mods = c.as_slice.ensures t } in
    let size = ap length (append-nil c.entries.result.now) in
    record {
      owners =
          global_is_put c.args.bags.now.owners c.put_bag.new.self.owners c.args.i c.bag_count-count.result b g
          c.requires.place c.bag_count-count.ensures same
          (one_bag_of g c.is_empty.result c.is_empty.ensures c.if-is_empty.false) c.put_bag.ensures.owners;
      room = λ more h.
          global_leaves c.args.bags.now c.put_bag.new.self c.args.i c.bag_count-count.result b g more
          c.requires.place c.bag_count-count.ensures same
          (one_counted_global g c.is_empty.result c.is_empty.ensures c.if-is_empty.false) c.put_bag.ensures.owners
          (omega arith) (omega arith) (omega arith) h;
    }
