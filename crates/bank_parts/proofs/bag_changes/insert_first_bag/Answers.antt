use Rattle.std.proofs.Common.{◌<◌, length, subst, sym}
use Rattle.bank_parts.proofs.BagLaws.{first_of}
use Rattle.bank_parts.proofs.bag_changes.insert_first_bag.Goals as goal

pub put_bag-requires-clause-place : goal.put_bag-requires-clause-place
put_bag-requires-clause-place c =
    first_of c.make_room.new.bags.owners c.args.i
    (subst (λ os. c.args.i < length os) (sym c.make_room.ensures.kept) c.requires.place)
