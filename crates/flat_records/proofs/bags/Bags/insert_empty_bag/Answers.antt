use Rattle.std.proofs.Common.{arith}
use Rattle.flat_records.proofs.TableLaws.{bags_read, are_read, held, bags_size, index_there, bag_put}
use Rattle.flat_records.proofs.bags.Bags.insert_empty_bag.Goals as goal

pub index-at-requires : goal.index-at-requires
index-at-requires c = index_there (held c.self.invariant c.self.view_is) c.requires.place c.self.inside.bags.ok.0

pub put_within-requires-clause-place : goal.put_within-requires-clause-place
put_within-requires-clause-place c =
    let size = bags_size (held c.self.invariant c.self.view_is) in
    omega arith

pub invariant_of-self : goal.invariant_of-self
invariant_of-self c =
    are_read
    (bag_put (held c.self.invariant c.self.view_is) c.args.k c.requires.place c.index-at.ensures
    c.put_within.ensures.list)

pub returns-clause-bags : goal.returns-clause-bags
returns-clause-bags c =
    bags_read
    (bag_put (held c.self.invariant c.self.view_is) c.args.k c.requires.place c.index-at.ensures
    c.put_within.ensures.list)
