use Rattle.std.proofs.Common.{rules}
use Rattle.bank_parts.proofs.ReadLaws.{held}
use Rattle.bank_parts.proofs.PlaceChanges.{bag_place, bag_is_found, mod_inside, mod_read}
use Rattle.bank_parts.proofs.owners.Owners.bag_and_mod.Goals as goal

pub mods-requires : goal.mods-requires
mods-requires g c =
    bag_is_found
    (bag_place (held c.self.invariant c.self.view_is) c.args.i c.args.place c.requires.there c.in-Some.at
    c.in-Some.ensures)

pub offset_bounds-mods-j : goal.offset_bounds-mods-j
offset_bounds-mods-j g c =
    let b =
    bag_place (held c.self.invariant c.self.view_is) c.args.i c.args.place c.requires.there c.in-Some.at
    c.in-Some.ensures in
    let inside = mod_inside b c.args.j c.mods.result.now c.requires.index c.mods.ensures in
    search rules

pub bounds-mods-j : goal.bounds-mods-j
bounds-mods-j g c =
    let b =
    bag_place (held c.self.invariant c.self.view_is) c.args.i c.args.place c.requires.there c.in-Some.at
    c.in-Some.ensures in
    mod_inside b c.args.j c.mods.result.now c.requires.index c.mods.ensures

pub returns-clause-value : goal.returns-clause-value
returns-clause-value g c =
    let b =
    bag_place (held c.self.invariant c.self.view_is) c.args.i c.args.place c.requires.there c.in-Some.at
    c.in-Some.ensures in
    mod_read b c.args.j c.mods.result.now c.requires.index c.mods.ensures _
