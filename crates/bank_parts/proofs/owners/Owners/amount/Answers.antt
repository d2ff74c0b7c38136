use Rattle.bank_parts.specs.Owners.{gens_at}
use Rattle.bank_parts.proofs.PlaceChanges.{ordered}
use Rattle.bank_parts.proofs.GenLaws.{amount_found, amount_missing}
use Rattle.bank_parts.proofs.owners.Owners.amount.Goals as goal

pub search_entries-requires : goal.search_entries-requires
search_entries-requires g c =
    ordered (gens_at c.args.self.now c.args.i c.args.place) c.entries-entries.result.now
    c.entries-entries.ensures.value

pub returns-in-Ok : goal.returns-in-Ok
returns-in-Ok g c =
    amount_found (gens_at c.args.self.now c.args.i c.args.place) c.entries-entries.result.now c.args.operator
    c.in-Ok.at (0, 0)
    c.entries-entries.ensures.value c.entries-entries.ensures.fits c.in-Ok.ensures.found

pub returns-in-Err : goal.returns-in-Err
returns-in-Err g c =
    let gap = c.in-Err.ensures.absent in
    amount_missing (gens_at c.args.self.now c.args.i c.args.place) c.entries-entries.result.now c.args.operator _
    c.entries-entries.ensures.value c.entries-entries.ensures.fits gap
