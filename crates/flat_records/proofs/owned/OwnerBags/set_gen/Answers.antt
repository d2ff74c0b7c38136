use Rattle.std.proofs.Common.{◌<◌, length, set}
use Rattle.flat_records.specs.Bags.{Bag, with_gens}
use Rattle.flat_records.proofs.Owners.{read, are_read, held}
use Rattle.flat_records.proofs.OwnerPlaces.{spot, place_there, bag_there, bag_sent}
use Rattle.flat_records.proofs.owned.OwnerBags.set_gen.Goals as goal

pub place-at-requires : goal.place-at-requires
place-at-requires c =
    place_there
    (spot (held c.self.invariant c.self.view_is) c.args.i c.args.k (λ (b : Bag). c.args.j < length b.gens)
    c.requires).gap
    c.deref.ensures.value

pub set_gen-requires : goal.set_gen-requires
set_gen-requires c =
    record {
      place =
          bag_there
          (spot (held c.self.invariant c.self.view_is) c.args.i c.args.k
          (λ (b : Bag). c.args.j < length b.gens) c.requires)
          c.deref.ensures.value c.place-at.ensures;
    }

pub invariant_of-self : goal.invariant_of-self
invariant_of-self c =
    are_read
    (bag_sent
    (spot (held c.self.invariant c.self.view_is) c.args.i c.args.k (λ (b : Bag). c.args.j < length b.gens)
    c.requires)
    c.deref.ensures.value c.place-at.ensures (λ (b : Bag). with_gens (set b.gens c.args.j c.args.pair) b)
    c.set_gen.ensures.bags)

pub returns-clause-owners : goal.returns-clause-owners
returns-clause-owners c =
    read
    (bag_sent
    (spot (held c.self.invariant c.self.view_is) c.args.i c.args.k (λ (b : Bag). c.args.j < length b.gens)
    c.requires)
    c.deref.ensures.value c.place-at.ensures (λ (b : Bag). with_gens (set b.gens c.args.j c.args.pair) b)
    c.set_gen.ensures.bags)
