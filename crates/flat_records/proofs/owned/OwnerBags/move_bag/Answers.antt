use Rattle.flat_records.proofs.Owners.{read, are_read, held}
use Rattle.flat_records.proofs.OwnerPlaces.{member, place_there, bag_within}
use Rattle.flat_records.proofs.OwnerRotations.{bag_moved}
use Rattle.flat_records.proofs.owned.OwnerBags.move_bag.Goals as goal

pub place-first-requires : goal.place-first-requires
place-first-requires c =
    place_there (member (held c.self.invariant c.self.view_is) c.args.i c.args.from c.requires.from).gap
    c.deref.ensures.value

pub place-second-requires : goal.place-second-requires
place-second-requires c =
    place_there (member (held c.self.invariant c.self.view_is) c.args.i c.args.to c.requires.to).gap
    c.deref-2.ensures.value

pub move_within-requires : goal.move_within-requires
move_within-requires c = record {
  from =
      bag_within (member (held c.self.invariant c.self.view_is) c.args.i c.args.from c.requires.from)
      c.deref.ensures.value c.place-first.ensures;
  to =
      bag_within (member (held c.self.invariant c.self.view_is) c.args.i c.args.to c.requires.to)
      c.deref-2.ensures.value c.place-second.ensures;
}

pub invariant_of-self : goal.invariant_of-self
invariant_of-self c =
    are_read
    (bag_moved (held c.self.invariant c.self.view_is) c.args.i c.args.from c.args.to c.requires.from
    c.requires.to c.deref.ensures.value c.deref-2.ensures.value c.place-first.ensures c.place-second.ensures
    c.move_within.ensures.bags)

pub returns-clause-owners : goal.returns-clause-owners
returns-clause-owners c =
    read
    (bag_moved (held c.self.invariant c.self.view_is) c.args.i c.args.from c.args.to c.requires.from
    c.requires.to c.deref.ensures.value c.deref-2.ensures.value c.place-first.ensures c.place-second.ensures
    c.move_within.ensures.bags)
