use Rattle.std.proofs.Common.{◌<◌, true, false, length}
use Rattle.flat_records.specs.Runs.{cut}
use Rattle.flat_records.specs.Bags.{Bag, with_mods}
use Rattle.flat_records.specs.Owned.{bag_at}
use Rattle.bank_parts.proofs.BagLaws.{some_of, next_of, remove_record_at}
use Rattle.bank_parts.proofs.bag_changes.remove_mod_record.Goals as goal

pub has_one_record-requires : goal.has_one_record-requires
has_one_record-requires c =
    some_of (λ (b : Bag). c.args.j < length b.mods) (bag_at c.args.bags.now.owners c.args.i c.args.k) c.requires

pub cut_bag-requires : goal.cut_bag-requires
cut_bag-requires c =
    some_of (λ (b : Bag). c.args.j < length b.mods) (bag_at c.args.bags.now.owners c.args.i c.args.k) c.requires

pub cut_mods-requires : goal.cut_mods-requires
cut_mods-requires c =
    next_of (λ (b : Bag). length b.mods) c.args.j (bag_at c.args.bags.now.owners c.args.i c.args.k) c.requires

pub returns-then-has_one_record : goal.returns-then-has_one_record
returns-then-has_one_record c =
    remove_record_at c.args.bags.now.owners c.args.i c.args.k (λ (b : Bag). with_mods (cut b.mods c.args.j 1) b) true
    c.has_one_record.ensures c.if-has_one_record.true c.cut_bag.ensures.owners

pub returns-else-has_one_record : goal.returns-else-has_one_record
returns-else-has_one_record c =
    remove_record_at c.args.bags.now.owners c.args.i c.args.k (λ (b : Bag). with_mods (cut b.mods c.args.j 1) b) false
    c.has_one_record.ensures c.if-has_one_record.false c.cut_mods.ensures.owners
