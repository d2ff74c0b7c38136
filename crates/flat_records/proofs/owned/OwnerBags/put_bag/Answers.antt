use Rattle.std.proofs.Common.{◌++◌, arith}
use Rattle.flat_records.proofs.Owners.{read, are_read, held}
use Rattle.flat_records.proofs.OwnerPlaces.{gap, place_there, place_within, later_raised, bag_put}
use Rattle.flat_records.proofs.owned.OwnerBags.put_bag.Goals as goal

pub place-at-requires : goal.place-at-requires
place-at-requires c =
    place_there (gap (held c.self.invariant c.self.view_is) c.args.i c.args.k c.requires.place) c.deref.ensures.value

pub put_bag-requires-clause-place : goal.put_bag-requires-clause-place
put_bag-requires-clause-place c =
    place_within (gap (held c.self.invariant c.self.view_is) c.args.i c.args.k c.requires.place)
    c.deref.ensures.value c.place-at.ensures

pub overflow_add-i : goal.overflow_add-i
overflow_add-i c =
    let more = (gap (held c.self.invariant c.self.view_is) c.args.i c.args.k c.requires.place).begin.more in
    let ok = c.self.inside.begins.ok in
    omega (arith, ok.0)

pub raise_from-requires : goal.raise_from-requires
raise_from-requires c =
    let a = held c.self.invariant c.self.view_is in
    later_raised (gap a c.args.i c.args.k c.requires.place) a 1 c.requires.bags_limit

pub invariant_of-self : goal.invariant_of-self
invariant_of-self c =
    are_read
    (bag_put (gap (held c.self.invariant c.self.view_is) c.args.i c.args.k c.requires.place)
    c.deref.ensures.value c.place-at.ensures (record { gens = c.args.gens.now ++ c.args.last.now; mods = c.args.mods.now })
    c.raise_from.ensures.list c.put_bag.ensures.bags)

pub returns-clause-owners : goal.returns-clause-owners
returns-clause-owners c =
    read
    (bag_put (gap (held c.self.invariant c.self.view_is) c.args.i c.args.k c.requires.place)
    c.deref.ensures.value c.place-at.ensures (record { gens = c.args.gens.now ++ c.args.last.now; mods = c.args.mods.now })
    c.raise_from.ensures.list c.put_bag.ensures.bags)
