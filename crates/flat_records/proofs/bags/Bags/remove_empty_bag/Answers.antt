use Rattle.std.proofs.Common.{arith}
use Rattle.base_numbered_lists.proofs.Lists.{slice_get-within}
use Rattle.flat_records.specs.Bags.{no_bag}
use Rattle.flat_records.proofs.TableLaws.{bags_read, are_read, held, bags_size, bag_cut}
use Rattle.flat_records.proofs.bags.Bags.remove_empty_bag.Goals as goal

pub remove-requires : goal.remove-requires
remove-requires c =
    let size = bags_size (held c.self.invariant c.self.view_is) in
    let within = slice_get-within c.args.self.now.bags c.args.k no_bag c.requires in
    let ok = c.self.inside.bags.ok in
    omega (arith, ok.0)

pub invariant_of-self : goal.invariant_of-self
invariant_of-self c =
    are_read (bag_cut (held c.self.invariant c.self.view_is) c.args.k c.requires c.remove.ensures.items)

pub returns-clause-bags : goal.returns-clause-bags
returns-clause-bags c =
    bags_read (bag_cut (held c.self.invariant c.self.view_is) c.args.k c.requires c.remove.ensures.items)
