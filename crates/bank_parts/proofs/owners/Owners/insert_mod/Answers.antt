use Rattle.bank_parts.proofs.ReadLaws.{read, are_read, held}
use Rattle.bank_parts.proofs.PlaceChanges.{bag_place, bare_place, mod_place}
use Rattle.bank_parts.proofs.GenChanges.{first_mod, mod_is_put}
use Rattle.bank_parts.proofs.StorableLaws.{first_mod_held, mod_held}
use Rattle.bank_parts.proofs.owners.Owners.insert_mod.Goals as goal

pub insert_first_bag-requires-clause-held : goal.insert_first_bag-requires-clause-held
insert_first_bag-requires-clause-held g c =
    let b =
    bare_place (held c.self.invariant c.self.view_is) c.args.i c.args.place c.requires.there c.in_default.ensures
    in
    first_mod_held b c.args.j c.args.modulator c.requires.index c.requires.storable

pub invariant_of-self-in_default : goal.invariant_of-self-in_default
invariant_of-self-in_default g c =
    let b =
    bare_place (held c.self.invariant c.self.view_is) c.args.i c.args.place c.requires.there c.in_default.ensures
    in
    are_read
    (first_mod b c.args.j c.args.modulator c.insert_first_bag.new.bags.owners c.requires.index
    c.in_ok-insert_first_bag.ensures.ok)

pub returns-in_default-clause-ok : goal.returns-in_default-clause-ok
returns-in_default-clause-ok g c =
    let b =
    bare_place (held c.self.invariant c.self.view_is) c.args.i c.args.place c.requires.there c.in_default.ensures
    in
    read (first_mod b c.args.j c.args.modulator c.insert_first_bag.new.bags.owners c.requires.index c.in_ok-insert_first_bag.ensures.ok)

pub make_room-requires : goal.make_room-requires
make_room-requires g c =
    let b =
    bag_place (held c.self.invariant c.self.view_is) c.args.i c.args.place c.requires.there c.in-Some.at
    c.in-Some.ensures in
    mod_held b c.args.j c.args.modulator c.requires.index c.requires.storable

pub put_mods-requires-clause-place : goal.put_mods-requires-clause-place
put_mods-requires-clause-place g c =
    let b =
    bag_place (held c.self.invariant c.self.view_is) c.args.i c.args.place c.requires.there c.in-Some.at
    c.in-Some.ensures in
    mod_place b c.args.j c.requires.index c.make_room.ensures.kept

pub invariant_of-self-2 : goal.invariant_of-self-2
invariant_of-self-2 g c =
    let b =
    bag_place (held c.self.invariant c.self.view_is) c.args.i c.args.place c.requires.there c.in-Some.at
    c.in-Some.ensures in
    are_read
    (mod_is_put b c.args.j c.args.modulator c.put_mods.new.self.owners c.requires.index c.make_room.ensures.kept
    c.put_mods.ensures.owners)

pub returns-clause-ok : goal.returns-clause-ok
returns-clause-ok g c =
    let b =
    bag_place (held c.self.invariant c.self.view_is) c.args.i c.args.place c.requires.there c.in-Some.at
    c.in-Some.ensures in
    read
    (mod_is_put b c.args.j c.args.modulator c.put_mods.new.self.owners c.requires.index c.make_room.ensures.kept
    c.put_mods.ensures.owners)
