use Rattle.std.proofs.Common.{◌∙◌, ap}
use Rattle.flat_records.specs.Owned.{Flat}
use Rattle.flat_records.proofs.Owners.{held}
use Rattle.flat_records.proofs.owned.OwnerBags.begins.Goals as goal

pub returns : goal.returns
returns c = c.deref.ensures.value ∙ ap (λ (t : Flat). t.begins) (held c.self.invariant c.self.view_is).same
