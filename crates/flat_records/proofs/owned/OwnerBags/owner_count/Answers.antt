use Rattle.std.proofs.Common.{arith}
use Rattle.flat_records.proofs.Owners.{held, begins_size}
use Rattle.flat_records.proofs.owned.OwnerBags.owner_count.Goals as goal

pub returns : goal.returns
returns c =
    let size = begins_size (held c.self.invariant c.self.view_is) in
    let ok = c.self.inside.begins.ok in
    omega (arith, ok.0)
