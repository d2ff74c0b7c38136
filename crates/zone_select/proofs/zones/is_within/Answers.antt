use Rattle.bank_parts.specs.declared.owners.ZonePlace.TheVariants as place
use Rattle.bank_parts.specs.Owners.{gens_at}
use Rattle.bank_parts.proofs.PlaceChanges.{ordered}
use Rattle.zone_select.proofs.zones.is_within.Goals as goal

pub amount_in-requires-in-None : goal.amount_in-requires-in-None
amount_in-requires-in-None g c =
    ordered (gens_at c.args.owners.now c.args.number place.Global) c.entries-global.result.now
    c.entries-global.ensures.value
