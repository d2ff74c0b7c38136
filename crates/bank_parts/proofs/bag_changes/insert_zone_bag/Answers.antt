use Rattle.std.proofs.Common.{◌≡◌, ◌∷◌, [], ◌++◌, List, length, insert, ap, ◌∙◌, arith}
use Rattle.std.specs.FinMap.{len-entries}
use Rattle.base_numbered_lists.specs.Moved.{changed}
use Rattle.flat_records.specs.Bags.{Bag}
use Rattle.bank_parts.specs.Bagged.{zone_bag}
use Rattle.bank_parts.proofs.AppendLaws.{zone_leaves}
use Rattle.bank_parts.proofs.bag_changes.insert_zone_bag.Goals.{After-put_bag}
use Rattle.bank_parts.proofs.bag_changes.insert_zone_bag.Goals as goal

pub put_bag-requires : goal.put_bag-requires
put_bag-requires c =
    let gens = ap length c.entries.ensures.all in
    let size = len-entries c.args.zone.now.gens in
    let mods = ap length c.as_slice.ensures in
    record {
      place =
          c.requires.place;
      bags =
          omega arith;
      gens =
          omega arith;
      mods =
          omega arith;
      bags_limit = omega arith;
      gens_limit = omega arith;
      mods_limit = omega arith;
    }

zone_is_put : (c : After-put_bag)
    → c.put_bag.new.self.owners
    ≡ changed c.args.bags.now.owners c.args.i (λ own. insert own c.args.k (zone_bag c.args.operator c.args.zone.now))
zone_is_put c =
    c.put_bag.ensures.owners
    ∙ (λ t. changed c.args.bags.now.owners c.args.i
    (λ (own : List Bag). insert own c.args.k (record {
      gens = c.entries.ensures.all t ++ (c.args.operator, c.args.zone.now.target) ∷ [];
      mods = c.as_slice.ensures t;
    })))

pub returns-clause-owners : goal.returns-clause-owners
returns-clause-owners c = zone_is_put (goal.at.returns-clause-owners c).After-put_bag

pub returns-clause-room : goal.returns-clause-room
returns-clause-room c = λ more h.
    let gens = ap length c.entries.ensures.all in
    let size = len-entries c.args.zone.now.gens in
    let mods = ap length c.as_slice.ensures in
    zone_leaves c.args.bags.now c.put_bag.new.self c.args.i c.args.k c.args.operator c.args.zone.now more
    c.requires.place (zone_is_put (goal.at.returns-clause-room c).After-put_bag) (omega arith) (omega arith)
    (omega arith) h
