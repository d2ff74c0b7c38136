use Rattle.std.proofs.Common.{◌≤◌, length}
use Rattle.flat_records.specs.Runs.{put}
use Rattle.flat_records.specs.Bags.{Bag, with_mods}
use Rattle.flat_records.proofs.Owners.{read, are_read, held}
use Rattle.flat_records.proofs.OwnerPlaces.{spot, place_there, bag_there, bag_sent}
use Rattle.flat_records.proofs.owned.OwnerBags.put_mods.Goals as goal

pub place-at-requires : goal.place-at-requires
place-at-requires c =
    place_there
    (spot (held c.self.invariant c.self.view_is) c.args.i c.args.k (λ (b : Bag). c.args.j ≤ length b.mods)
    c.requires.place).gap
    c.deref.ensures.value

pub put_mods-requires-clause-place : goal.put_mods-requires-clause-place
put_mods-requires-clause-place c =
    bag_there
    (spot (held c.self.invariant c.self.view_is) c.args.i c.args.k (λ (b : Bag). c.args.j ≤ length b.mods)
    c.requires.place)
    c.deref.ensures.value c.place-at.ensures

pub invariant_of-self : goal.invariant_of-self
invariant_of-self c =
    are_read
    (bag_sent
    (spot (held c.self.invariant c.self.view_is) c.args.i c.args.k (λ (b : Bag). c.args.j ≤ length b.mods)
    c.requires.place)
    c.deref.ensures.value c.place-at.ensures (λ (b : Bag). with_mods (put b.mods c.args.j c.args.mods.now) b)
    c.put_mods.ensures.bags)

pub returns-clause-owners : goal.returns-clause-owners
returns-clause-owners c =
    read
    (bag_sent
    (spot (held c.self.invariant c.self.view_is) c.args.i c.args.k (λ (b : Bag). c.args.j ≤ length b.mods)
    c.requires.place)
    c.deref.ensures.value c.place-at.ensures (λ (b : Bag). with_mods (put b.mods c.args.j c.args.mods.now) b)
    c.put_mods.ensures.bags)
