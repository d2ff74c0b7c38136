use Rattle.std.proofs.Common.{◌∙◌, ap}
use Rattle.bank_parts.specs.FlatLists.{lists_of_bags}
use Rattle.bank_parts.proofs.ReadLaws.{held}
use Rattle.bank_parts.proofs.owners.Owners.first_bags.Goals as goal

pub returns : goal.returns
returns g c =
    c.begins.ensures ∙ ap (λ bags. (lists_of_bags bags).first_bags) (held c.self.invariant c.self.view_is).bags
