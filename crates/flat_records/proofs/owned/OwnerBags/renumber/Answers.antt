use Rattle.std.proofs.Common.{subst, sym, ap}
use Rattle.std.specs.Prelude.{All}
use Rattle.flat_records.specs.Bags.{gens_in}
use Rattle.flat_records.specs.Renumbered.{bag_renumbered, CanRenumber, IsOnlyLast}
use Rattle.flat_records.specs.Owned.{Flat}
use Rattle.flat_records.proofs.Owners.{read, are_read, held}
use Rattle.flat_records.proofs.Following.{each_sent}
use Rattle.flat_records.proofs.owned.OwnerBags.renumber.Goals as goal

pub renumber-requires : goal.renumber-requires
renumber-requires c =
    let same = sym (ap (λ (t : Flat). t.bags) (held c.self.invariant c.self.view_is).same) in
    record {
      numbers = subst (λ bags. All (CanRenumber c.args.operator c.args.by) (gens_in bags)) same c.requires.numbers;
      last = subst (λ bags. All (IsOnlyLast c.args.operator) bags) same c.requires.last;
    }

pub invariant_of-self : goal.invariant_of-self
invariant_of-self c =
    are_read
    (each_sent (bag_renumbered c.args.operator c.args.by) (held c.self.invariant c.self.view_is)
    c.renumber.ensures.bags)

pub returns-clause-owners : goal.returns-clause-owners
returns-clause-owners c =
    read
    (each_sent (bag_renumbered c.args.operator c.args.by) (held c.self.invariant c.self.view_is)
    c.renumber.ensures.bags)
