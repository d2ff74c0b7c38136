use Rattle.std.proofs.Common.{◌-◌, arith}
use Rattle.flat_records.proofs.OwnerInsertions.{all_left, one_fewer, last_left, none_left}
use Rattle.flat_records.proofs.owned.OwnerBags.clear_owner.Goals as goal

pub loop-left-init : goal.loop-left-init
loop-left-init c = all_left c.args.self.now.owners c.args.i c.bag_count-left.result c.requires c.bag_count-left.ensures

pub cut_bag-requires : goal.cut_bag-requires
cut_bag-requires c =
    last_left c.args.self.now.owners c.loop-left.self.owners c.args.i c.loop-left.left (c.loop-left.left - 1)
    c.loop-left.invariant (omega arith)

pub loop-left-preserved : goal.loop-left-preserved
loop-left-preserved c =
    one_fewer c.args.self.now.owners c.loop-left.self.owners c.cut_bag.new.self.owners c.args.i c.loop-left.left
    (c.loop-left.left - 1) c.loop-left.invariant (omega arith) c.cut_bag.ensures.owners

pub returns : goal.returns
returns c =
    none_left c.args.self.now.owners c.loop-left.self.owners c.args.i c.loop-left.left c.requires
    c.loop-left.invariant (omega arith)
