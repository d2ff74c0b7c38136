use Rattle.bank_parts.proofs.ReadLaws.{read, are_read, held}
use Rattle.bank_parts.proofs.PlaceChanges.{bag_place, mod_within}
use Rattle.bank_parts.proofs.GenChanges.{mod_is_removed}
use Rattle.bank_parts.proofs.owners.Owners.remove_mod.Goals as goal

pub remove_mod_record-requires : goal.remove_mod_record-requires
remove_mod_record-requires g c =
    mod_within
    (bag_place (held c.self.invariant c.self.view_is) c.args.i c.args.place c.requires.there
    c.bag_and_mod-at.result.0 c.bag_and_mod-at.ensures.bag)
    c.args.j c.requires.index

pub invariant_of-self : goal.invariant_of-self
invariant_of-self g c =
    let b =
    bag_place (held c.self.invariant c.self.view_is) c.args.i c.args.place c.requires.there
    c.bag_and_mod-at.result.0 c.bag_and_mod-at.ensures.bag in
    are_read (mod_is_removed b c.args.j c.remove_mod_record.new.bags.owners c.requires.index c.remove_mod_record.ensures)

pub returns-clause-change : goal.returns-clause-change
returns-clause-change g c =
    let b =
    bag_place (held c.self.invariant c.self.view_is) c.args.i c.args.place c.requires.there
    c.bag_and_mod-at.result.0 c.bag_and_mod-at.ensures.bag in
    read (mod_is_removed b c.args.j c.remove_mod_record.new.bags.owners c.requires.index c.remove_mod_record.ensures)
