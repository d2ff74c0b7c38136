use Rattle.std.proofs.Common.{◌∙◌, ap}
use Rattle.bank_parts.specs.Bagged.{without_target}
use Rattle.bank_parts.proofs.ReadLaws.{held}
use Rattle.bank_parts.proofs.PlaceChanges.{bag_place, bag_is_found, entries_read}
use Rattle.bank_parts.proofs.owners.Owners.bag_entries.Goals as goal

pub gens-requires : goal.gens-requires
gens-requires g c =
    bag_is_found
    (bag_place (held c.self.invariant c.self.view_is) c.args.i c.args._place c.requires.there c.args.at c.requires.bag)

pub returns : goal.returns
returns g c =
    let b =
    bag_place (held c.self.invariant c.self.view_is) c.args.i c.args._place c.requires.there c.args.at c.requires.bag in
    entries_read b c.gens.result.now c.without_target.result.now c.gens.ensures
    (c.without_target.ensures ∙ ap (λ op. without_target op c.gens.result.now) c.operator.ensures)
