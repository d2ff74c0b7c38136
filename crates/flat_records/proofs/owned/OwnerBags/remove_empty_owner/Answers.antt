use Rattle.std.proofs.Common.{[], arith}
use Rattle.base_numbered_lists.proofs.Lists.{slice_get-within}
use Rattle.flat_records.proofs.Owners.{read, are_read, held, begins_size}
use Rattle.flat_records.proofs.OwnerInsertions.{owner_cut}
use Rattle.flat_records.proofs.owned.OwnerBags.remove_empty_owner.Goals as goal

pub remove-requires : goal.remove-requires
remove-requires c =
    let size = begins_size (held c.self.invariant c.self.view_is) in
    let within = slice_get-within c.args.self.now.owners c.args.i [] c.requires in
    let ok = c.self.inside.begins.ok in
    omega (arith, ok.0)

pub invariant_of-self : goal.invariant_of-self
invariant_of-self c =
    are_read (owner_cut (held c.self.invariant c.self.view_is) c.args.i c.requires c.remove.ensures.items)

pub returns : goal.returns
returns c =
    record
    { owners = read (owner_cut (held c.self.invariant c.self.view_is) c.args.i c.requires c.remove.ensures.items) }
