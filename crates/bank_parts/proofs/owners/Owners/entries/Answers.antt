use Rattle.std.proofs.Common.{◌∙◌, ap}
use Rattle.bank_parts.specs.Bagged.{without_target}
use Rattle.bank_parts.proofs.ReadLaws.{held}
use Rattle.bank_parts.proofs.BagSettings.{place_there}
use Rattle.bank_parts.proofs.PlaceChanges.{bag_place, bare_place, gens_fit, no_entries, bag_is_found, entries_read}
use Rattle.bank_parts.proofs.owners.Owners.entries.Goals as goal

pub returns-in-None-clause-value : goal.returns-in-None-clause-value
returns-in-None-clause-value g c =
    no_entries (bare_place (held c.self.invariant c.self.view_is) c.args.i c.args.place c.requires c.in-None.ensures)

pub returns-in-None-clause-fits : goal.returns-in-None-clause-fits
returns-in-None-clause-fits g c =
    gens_fit (place_there (held c.self.invariant c.self.view_is) c.args.i c.args.place c.requires)

pub gens-requires : goal.gens-requires
gens-requires g c =
    bag_is_found
    (bag_place (held c.self.invariant c.self.view_is) c.args.i c.args.place c.requires c.in-Some.at
    c.in-Some.ensures)

pub returns-in-Some-clause-value : goal.returns-in-Some-clause-value
returns-in-Some-clause-value g c =
    let b =
    bag_place (held c.self.invariant c.self.view_is) c.args.i c.args.place c.requires c.in-Some.at
    c.in-Some.ensures in
    entries_read b c.gens.result.now c.without_target.result.now c.gens.ensures
    (c.without_target.ensures ∙ ap (λ op. without_target op c.gens.result.now) c.operator.ensures)

pub returns-in-Some-clause-fits : goal.returns-in-Some-clause-fits
returns-in-Some-clause-fits g c =
    gens_fit (place_there (held c.self.invariant c.self.view_is) c.args.i c.args.place c.requires)
