use Rattle.std.proofs.Common.{arith}
use Rattle.flat_records.proofs.Owners.{read, are_read, held, begins_size, begin_there}
use Rattle.flat_records.proofs.OwnerInsertions.{owner_put}
use Rattle.flat_records.proofs.owned.OwnerBags.insert_empty_owner.Goals as goal

pub index-begin-requires : goal.index-begin-requires
index-begin-requires c = begin_there (held c.self.invariant c.self.view_is) c.requires.place c.self.inside.begins.ok.0

pub put_one_within-requires-clause-place : goal.put_one_within-requires-clause-place
put_one_within-requires-clause-place c =
    let size = begins_size (held c.self.invariant c.self.view_is) in
    let place = c.requires.place in
    omega arith

pub invariant_of-self : goal.invariant_of-self
invariant_of-self c =
    are_read
    (owner_put (held c.self.invariant c.self.view_is) c.args.i c.requires.place c.index-begin.ensures
    c.put_one_within.ensures.list)

pub returns-clause-owners : goal.returns-clause-owners
returns-clause-owners c =
    read
    (owner_put (held c.self.invariant c.self.view_is) c.args.i c.requires.place c.index-begin.ensures
    c.put_one_within.ensures.list)
