use Rattle.std.proofs.Common.{◌≤◌, ◌+◌, length}
use Rattle.flat_records.specs.Runs.{cut}
use Rattle.flat_records.specs.Bags.{Bag, with_mods}
use Rattle.flat_records.proofs.Owners.{read, are_read, held}
use Rattle.flat_records.proofs.OwnerPlaces.{spot, place_there, bag_there, bag_sent}
use Rattle.flat_records.proofs.owned.OwnerBags.cut_mods.Goals as goal

pub place-at-requires : goal.place-at-requires
place-at-requires c =
    place_there
    (spot (held c.self.invariant c.self.view_is) c.args.i c.args.k
    (λ (b : Bag). c.args.j + c.args.n ≤ length b.mods) c.requires).gap
    c.deref.ensures.value

pub cut_mods-requires : goal.cut_mods-requires
cut_mods-requires c =
    bag_there
    (spot (held c.self.invariant c.self.view_is) c.args.i c.args.k
    (λ (b : Bag). c.args.j + c.args.n ≤ length b.mods) c.requires)
    c.deref.ensures.value c.place-at.ensures

pub invariant_of-self : goal.invariant_of-self
invariant_of-self c =
    are_read
    (bag_sent
    (spot (held c.self.invariant c.self.view_is) c.args.i c.args.k
    (λ (b : Bag). c.args.j + c.args.n ≤ length b.mods) c.requires)
    c.deref.ensures.value c.place-at.ensures (λ (b : Bag). with_mods (cut b.mods c.args.j c.args.n) b)
    c.cut_mods.ensures.bags)

pub returns-clause-owners : goal.returns-clause-owners
returns-clause-owners c =
    read
    (bag_sent
    (spot (held c.self.invariant c.self.view_is) c.args.i c.args.k
    (λ (b : Bag). c.args.j + c.args.n ≤ length b.mods) c.requires)
    c.deref.ensures.value c.place-at.ensures (λ (b : Bag). with_mods (cut b.mods c.args.j c.args.n) b)
    c.cut_mods.ensures.bags)
