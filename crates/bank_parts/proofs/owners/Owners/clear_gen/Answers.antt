use Rattle.bank_parts.specs.Owners.{gens_at}
use Rattle.bank_parts.proofs.ReadLaws.{read, are_read, held}
use Rattle.bank_parts.proofs.BagSettings.{place_there}
use Rattle.bank_parts.proofs.PlaceChanges.{ordered, bag_place, bare_place, gen_within}
use Rattle.bank_parts.proofs.GenChanges.{was_none, was_found, was_missing, gen_is_removed, bare_cleared, none_cleared}
use Rattle.bank_parts.proofs.owners.Owners.clear_gen.Goals as goal

pub returns-in_default-clause-was : goal.returns-in_default-clause-was
returns-in_default-clause-was g c =
    was_none
    (bare_place (held c.self.invariant c.self.view_is) c.args.i c.args.place c.requires c.in_default.ensures)
    c.args.operator

pub returns-in_default-clause-change : goal.returns-in_default-clause-change
returns-in_default-clause-change g c =
    bare_cleared
    (bare_place (held c.self.invariant c.self.view_is) c.args.i c.args.place c.requires c.in_default.ensures)
    c.args.operator

pub search_entries-requires : goal.search_entries-requires
search_entries-requires g c =
    ordered (gens_at c.args.self.now c.args.i c.args.place) c.bag_entries-entries.result.now c.bag_entries-entries.ensures

pub remove_gen_record-requires : goal.remove_gen_record-requires
remove_gen_record-requires g c =
    let b =
    bag_place (held c.self.invariant c.self.view_is) c.args.i c.args.place c.requires c.in-Some.at
    c.in-Some.ensures in
    gen_within b c.bag_entries-entries.ensures c.in-Ok.ensures.found

pub invariant_of-self : goal.invariant_of-self
invariant_of-self g c =
    let b =
    bag_place (held c.self.invariant c.self.view_is) c.args.i c.args.place c.requires c.in-Some.at
    c.in-Some.ensures in
    are_read
    (gen_is_removed b c.bag_entries-entries.ensures c.remove_gen_record.new.bags.owners c.in-Ok.ensures.found
    c.remove_gen_record.ensures)

pub returns-in-Ok-clause-was : goal.returns-in-Ok-clause-was
returns-in-Ok-clause-was g c =
    was_found (place_there (held c.self.invariant c.self.view_is) c.args.i c.args.place c.requires)
    c.bag_entries-entries.ensures c.in-Ok.ensures.found

pub returns-in-Ok-clause-change : goal.returns-in-Ok-clause-change
returns-in-Ok-clause-change g c =
    let b =
    bag_place (held c.self.invariant c.self.view_is) c.args.i c.args.place c.requires c.in-Some.at
    c.in-Some.ensures in
    read
    (gen_is_removed b c.bag_entries-entries.ensures c.remove_gen_record.new.bags.owners c.in-Ok.ensures.found
    c.remove_gen_record.ensures)

pub returns-in-Err-clause-was : goal.returns-in-Err-clause-was
returns-in-Err-clause-was g c =
    was_missing (place_there (held c.self.invariant c.self.view_is) c.args.i c.args.place c.requires)
    c.bag_entries-entries.ensures c.in-Err.ensures.absent

pub returns-in-Err-clause-change : goal.returns-in-Err-clause-change
returns-in-Err-clause-change g c =
    none_cleared (place_there (held c.self.invariant c.self.view_is) c.args.i c.args.place c.requires)
    c.bag_entries-entries.ensures c.in-Err.ensures.absent
