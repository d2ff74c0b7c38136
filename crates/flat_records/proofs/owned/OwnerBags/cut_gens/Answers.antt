use Rattle.std.proofs.Common.{◌≤◌, ◌+◌, length}
use Rattle.flat_records.specs.Runs.{cut}
use Rattle.flat_records.specs.Bags.{Bag, with_gens}
use Rattle.flat_records.proofs.Owners.{read, are_read, held}
use Rattle.flat_records.proofs.OwnerPlaces.{spot, place_there, bag_there, bag_sent}
use Rattle.flat_records.proofs.owned.OwnerBags.cut_gens.Goals as goal

pub place-at-requires : goal.place-at-requires
place-at-requires c =
    place_there
    (spot (held c.self.invariant c.self.view_is) c.args.i c.args.k
    (λ (b : Bag). c.args.j + c.args.n ≤ length b.gens) c.requires).gap
    c.deref.ensures.value

pub cut_gens-requires : goal.cut_gens-requires
cut_gens-requires c =
    bag_there
    (spot (held c.self.invariant c.self.view_is) c.args.i c.args.k
    (λ (b : Bag). c.args.j + c.args.n ≤ length b.gens) c.requires)
    c.deref.ensures.value c.place-at.ensures

pub invariant_of-self : goal.invariant_of-self
invariant_of-self c =
    are_read
    (bag_sent
    (spot (held c.self.invariant c.self.view_is) c.args.i c.args.k
    (λ (b : Bag). c.args.j + c.args.n ≤ length b.gens) c.requires)
    c.deref.ensures.value c.place-at.ensures (λ (b : Bag). with_gens (cut b.gens c.args.j c.args.n) b)
    c.cut_gens.ensures.bags)

pub returns-clause-owners : goal.returns-clause-owners
returns-clause-owners c =
    read
    (bag_sent
    (spot (held c.self.invariant c.self.view_is) c.args.i c.args.k
    (λ (b : Bag). c.args.j + c.args.n ≤ length b.gens) c.requires)
    c.deref.ensures.value c.place-at.ensures (λ (b : Bag). with_gens (cut b.gens c.args.j c.args.n) b)
    c.cut_gens.ensures.bags)
