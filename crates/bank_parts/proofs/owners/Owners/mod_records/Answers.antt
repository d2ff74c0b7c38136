use Rattle.std.proofs.Common.{◌∙◌, ap}
use Rattle.bank_parts.specs.FlatLists.{lists_of_bags}
use Rattle.bank_parts.proofs.ReadLaws.{held}
use Rattle.bank_parts.proofs.owners.Owners.mod_records.Goals as goal

pub returns : goal.returns
returns g c = c.mod_records.ensures ∙ ap (λ bags. (lists_of_bags bags).mods) (held c.self.invariant c.self.view_is).bags
