use Rattle.std.proofs.Common.{slice_get, subst, ap, arith}
use Rattle.std.specs.Option.{IfSome}
use Rattle.flat_records.specs.Bags.{Bag}
use Rattle.flat_records.specs.Stored.{Counts, Frees, counts_of}
use Rattle.flat_records.specs.OwnersStored.{Stored}
use Rattle.flat_records.proofs.Owners.{read, are_read, held}
use Rattle.flat_records.proofs.OwnerPlaces.{any_bag, place_there, bag_within, bag_value, bag_cut, later_lowered}
use Rattle.flat_records.proofs.owned.OwnerBags.cut_bag.Goals as goal

pub place-at-requires : goal.place-at-requires
place-at-requires c =
    place_there (any_bag (held c.self.invariant c.self.view_is) c.args.i c.args.k c.requires).gap
    c.deref.ensures.value

pub cut_bag-requires : goal.cut_bag-requires
cut_bag-requires c =
    bag_within (any_bag (held c.self.invariant c.self.view_is) c.args.i c.args.k c.requires) c.deref.ensures.value
    c.place-at.ensures

pub overflow_add-i : goal.overflow_add-i
overflow_add-i c =
    let place = (later_lowered (any_bag (held c.self.invariant c.self.view_is) c.args.i c.args.k c.requires)).place in
    let ok = c.self.inside.begins.ok in
    omega (arith, ok.0)

pub lower_from-requires : goal.lower_from-requires
lower_from-requires c = later_lowered (any_bag (held c.self.invariant c.self.view_is) c.args.i c.args.k c.requires)

pub invariant_of-self : goal.invariant_of-self
invariant_of-self c =
    are_read
    (bag_cut (any_bag (held c.self.invariant c.self.view_is) c.args.i c.args.k c.requires) c.deref.ensures.value
    c.place-at.ensures c.lower_from.ensures.list c.cut_bag.ensures.bags)

pub returns-clause-owners : goal.returns-clause-owners
returns-clause-owners c =
    read
    (bag_cut (any_bag (held c.self.invariant c.self.view_is) c.args.i c.args.k c.requires) c.deref.ensures.value
    c.place-at.ensures c.lower_from.ensures.list c.cut_bag.ensures.bags)

pub returns-clause-spare : goal.returns-clause-spare
returns-clause-spare c =
    bag_value (any_bag (held c.self.invariant c.self.view_is) c.args.i c.args.k c.requires) c.deref.ensures.value
    c.place-at.ensures (λ (b : Bag). Frees c.args.self.now.spare c.cut_bag.new.self.spare (counts_of b))
    (subst
    (λ (spare : Counts).
    IfSome (slice_get c.self.inside.bags.bags c.place-at.result)
    (λ (b : Bag). Frees spare c.cut_bag.new.self.spare (counts_of b)))
    (ap (λ (s : Stored). s.spare) c.self.view_is) c.cut_bag.ensures.spare)
