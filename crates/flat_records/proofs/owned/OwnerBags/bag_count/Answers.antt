use Rattle.std.proofs.Common.{arith}
use Rattle.flat_records.proofs.Owners.{held, begins_size, begin_there, bags_between}
use Rattle.flat_records.proofs.owned.OwnerBags.bag_count.Goals as goal

pub overflow_add-i : goal.overflow_add-i
overflow_add-i c =
    let size = begins_size (held c.self.invariant c.self.view_is) in
    let ok = c.self.inside.begins.ok in
    omega (arith, ok.0)

pub index-requires : goal.index-requires
index-requires c = begin_there (held c.self.invariant c.self.view_is) (omega arith) c.self.inside.begins.ok.0

pub index-requires-2 : goal.index-requires-2
index-requires-2 c = begin_there (held c.self.invariant c.self.view_is) (omega arith) c.self.inside.begins.ok.0

pub overflow_sub-result : goal.overflow_sub-result
overflow_sub-result c =
    (bags_between (held c.self.invariant c.self.view_is) c.args.i c.requires c.index-2.ensures c.index.ensures).0

pub returns : goal.returns
returns c =
    (bags_between (held c.self.invariant c.self.view_is) c.args.i c.requires c.index-2.ensures c.index.ensures).1
