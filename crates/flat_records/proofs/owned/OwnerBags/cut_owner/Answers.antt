use Rattle.std.proofs.Common.{◌-◌, arith}
use Rattle.flat_records.proofs.OwnerInsertions.{cut_last}
use Rattle.flat_records.proofs.owned.OwnerBags.cut_owner.Goals as goal

pub returns : goal.returns
returns c =
    let count = c.owner_count-last.ensures in
    let here = c.requires in
    cut_last c.args.self.now.owners c.move_owner.new.self.owners c.clear_owner.new.self.owners
    c.remove_empty_owner.new.self.owners c.args.i (c.owner_count-last.result - 1) here (omega arith)
    c.move_owner.ensures.owners c.clear_owner.ensures c.remove_empty_owner.ensures.owners
