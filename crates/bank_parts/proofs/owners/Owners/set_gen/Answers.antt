use Rattle.std.proofs.Common.{sym}
use Rattle.bank_parts.specs.Owners.{gens_at, amount_at}
use Rattle.bank_parts.proofs.ReadLaws.{read, are_read, held}
use Rattle.bank_parts.proofs.BagSettings.{place_there}
use Rattle.bank_parts.proofs.PlaceChanges.{ordered, bag_place, bare_place, gen_within, gen_place}
use Rattle.bank_parts.proofs.GenChanges.{was_none, was_found, was_missing, none_is_set, first_gen, gen_is_set}
use Rattle.bank_parts.proofs.GenChanges.{gen_is_put}
use Rattle.bank_parts.proofs.StorableLaws.{first_gen_held, gen_found_other, gen_held, gen_other}
use Rattle.bank_parts.proofs.owners.Owners.set_gen.Goals as goal

pub returns-in_err-insert_first_bag-clause-needs_no_memory : goal.returns-in_err-insert_first_bag-clause-needs_no_memory
returns-in_err-insert_first_bag-clause-needs_no_memory g c =
    let b = bare_place (held c.self.invariant c.self.view_is) c.args.i c.args.place c.requires.there c.in_default.ensures in
    none_is_set (amount_at c.args.self.now c.args.i c.args.place c.args.operator) _ (was_none b c.args.operator)

pub insert_first_bag-requires-clause-held : goal.insert_first_bag-requires-clause-held
insert_first_bag-requires-clause-held g c =
    let b =
    bare_place (held c.self.invariant c.self.view_is) c.args.i c.args.place c.requires.there c.in_default.ensures in
    first_gen_held b c.args.operator c.args.amount c.ranges.operator.fits c.ranges.amount.fits
    (c.requires.storable (sym (was_none b c.args.operator)))

pub invariant_of-self-in_default : goal.invariant_of-self-in_default
invariant_of-self-in_default g c =
    let b = bare_place (held c.self.invariant c.self.view_is) c.args.i c.args.place c.requires.there c.in_default.ensures in
    are_read
    (first_gen b c.args.operator c.args.amount c.insert_first_bag.new.bags.owners
    (gen_other b.place c.args.operator c.args.amount (c.requires.storable (sym (was_none b c.args.operator)))) c.ranges.operator.fits
    c.ranges.amount.fits c.in_ok-insert_first_bag.ensures.ok)

pub returns-in_default-clause-was : goal.returns-in_default-clause-was
returns-in_default-clause-was g c =
    was_none
    (bare_place (held c.self.invariant c.self.view_is) c.args.i c.args.place c.requires.there c.in_default.ensures)
    c.args.operator

pub returns-in_default-clause-ok : goal.returns-in_default-clause-ok
returns-in_default-clause-ok g c =
    let b = bare_place (held c.self.invariant c.self.view_is) c.args.i c.args.place c.requires.there c.in_default.ensures in
    read
    (first_gen b c.args.operator c.args.amount c.insert_first_bag.new.bags.owners
    (gen_other b.place c.args.operator c.args.amount (c.requires.storable (sym (was_none b c.args.operator)))) c.ranges.operator.fits
    c.ranges.amount.fits c.in_ok-insert_first_bag.ensures.ok)

pub search_entries-requires : goal.search_entries-requires
search_entries-requires g c =
    ordered (gens_at c.args.self.now c.args.i c.args.place) c.bag_entries-entries.result.now c.bag_entries-entries.ensures

pub set_gen-requires : goal.set_gen-requires
set_gen-requires g c =
    let b =
    bag_place (held c.self.invariant c.self.view_is) c.args.i c.args.place c.requires.there c.in-Some.at
    c.in-Some.ensures in
    gen_within b c.bag_entries-entries.ensures c.in-Ok.ensures.found

pub invariant_of-self-in-Ok : goal.invariant_of-self-in-Ok
invariant_of-self-in-Ok g c =
    let b =
    bag_place (held c.self.invariant c.self.view_is) c.args.i c.args.place c.requires.there c.in-Some.at
    c.in-Some.ensures in
    are_read
    (gen_is_set b c.bag_entries-entries.ensures c.args.amount c.set_gen.new.self.owners
    (gen_found_other b.place c.bag_entries-entries.ensures c.in-Ok.ensures.found) c.ranges.operator.fits
    c.ranges.amount.fits c.in-Ok.ensures.found c.set_gen.ensures.owners)

pub returns-in-Ok-clause-was : goal.returns-in-Ok-clause-was
returns-in-Ok-clause-was g c =
    was_found (place_there (held c.self.invariant c.self.view_is) c.args.i c.args.place c.requires.there)
    c.bag_entries-entries.ensures c.in-Ok.ensures.found

pub returns-in-Ok-clause-ok : goal.returns-in-Ok-clause-ok
returns-in-Ok-clause-ok g c =
    let b =
    bag_place (held c.self.invariant c.self.view_is) c.args.i c.args.place c.requires.there c.in-Some.at
    c.in-Some.ensures in
    read
    (gen_is_set b c.bag_entries-entries.ensures c.args.amount c.set_gen.new.self.owners
    (gen_found_other b.place c.bag_entries-entries.ensures c.in-Ok.ensures.found) c.ranges.operator.fits
    c.ranges.amount.fits c.in-Ok.ensures.found c.set_gen.ensures.owners)

pub returns-in_err-make_room-in-Err-clause-needs_no_memory : goal.returns-in_err-make_room-in-Err-clause-needs_no_memory
returns-in_err-make_room-in-Err-clause-needs_no_memory g c =
    let p = place_there (held c.self.invariant c.self.view_is) c.args.i c.args.place c.requires.there in
    none_is_set (amount_at c.args.self.now c.args.i c.args.place c.args.operator) _
    (was_missing p c.bag_entries-entries.ensures c.in-Err.ensures.absent)

pub make_room-requires : goal.make_room-requires
make_room-requires g c =
    let b =
    bag_place (held c.self.invariant c.self.view_is) c.args.i c.args.place c.requires.there c.in-Some.at
    c.in-Some.ensures in
    gen_held b c.bag_entries-entries.ensures c.args.amount c.ranges.operator.fits c.ranges.amount.fits
    c.in-Err.ensures.absent
    (c.requires.storable (sym (was_missing b.place c.bag_entries-entries.ensures c.in-Err.ensures.absent)))

pub put_gens-requires-clause-place : goal.put_gens-requires-clause-place
put_gens-requires-clause-place g c =
    let b =
    bag_place (held c.self.invariant c.self.view_is) c.args.i c.args.place c.requires.there c.in-Some.at
    c.in-Some.ensures in
    gen_place b c.bag_entries-entries.ensures c.in-Err.ensures.absent c.make_room.ensures.kept

pub invariant_of-self-in-Err : goal.invariant_of-self-in-Err
invariant_of-self-in-Err g c =
    let b =
    bag_place (held c.self.invariant c.self.view_is) c.args.i c.args.place c.requires.there c.in-Some.at
    c.in-Some.ensures in
    are_read (gen_is_put b c.bag_entries-entries.ensures c.args.amount c.put_gens.new.self.owners
    (gen_other b.place c.args.operator c.args.amount
    (c.requires.storable (sym (was_missing b.place c.bag_entries-entries.ensures c.in-Err.ensures.absent)))) c.ranges.operator.fits c.ranges.amount.fits
    c.in-Err.ensures.absent c.make_room.ensures.kept c.put_gens.ensures.owners)

pub returns-in_ok-make_room-in-Err-clause-was : goal.returns-in_ok-make_room-in-Err-clause-was
returns-in_ok-make_room-in-Err-clause-was g c =
    was_missing (place_there (held c.self.invariant c.self.view_is) c.args.i c.args.place c.requires.there)
    c.bag_entries-entries.ensures c.in-Err.ensures.absent

pub returns-in_ok-make_room-in-Err-clause-ok : goal.returns-in_ok-make_room-in-Err-clause-ok
returns-in_ok-make_room-in-Err-clause-ok g c =
    let b =
    bag_place (held c.self.invariant c.self.view_is) c.args.i c.args.place c.requires.there c.in-Some.at
    c.in-Some.ensures in
    read (gen_is_put b c.bag_entries-entries.ensures c.args.amount c.put_gens.new.self.owners
    (gen_other b.place c.args.operator c.args.amount
    (c.requires.storable (sym (was_missing b.place c.bag_entries-entries.ensures c.in-Err.ensures.absent)))) c.ranges.operator.fits c.ranges.amount.fits
    c.in-Err.ensures.absent c.make_room.ensures.kept c.put_gens.ensures.owners)
