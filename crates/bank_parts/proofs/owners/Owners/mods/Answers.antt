use Rattle.bank_parts.proofs.ReadLaws.{held}
use Rattle.bank_parts.proofs.PlaceChanges.{bag_place, bare_place, no_mods, bag_is_found, mods_read}
use Rattle.bank_parts.proofs.owners.Owners.mods.Goals as goal

pub returns-in-None : goal.returns-in-None
returns-in-None g c =
    no_mods (bare_place (held c.self.invariant c.self.view_is) c.args.i c.args.place c.requires c.in-None.ensures)

pub mods-requires : goal.mods-requires
mods-requires g c =
    bag_is_found
    (bag_place (held c.self.invariant c.self.view_is) c.args.i c.args.place c.requires c.in-Some.at
    c.in-Some.ensures)

pub returns-in-Some : goal.returns-in-Some
returns-in-Some g c =
    mods_read
    (bag_place (held c.self.invariant c.self.view_is) c.args.i c.args.place c.requires c.in-Some.at
    c.in-Some.ensures)
    c.mods.result.now c.mods.ensures
