use Rattle.bank_parts.specs.Owners.{gens_at}
use Rattle.bank_parts.proofs.PlaceChanges.{counted}
use Rattle.bank_parts.proofs.owners.Owners.gen_count.Goals as goal

pub returns : goal.returns
returns g c = counted (gens_at c.args.self.now c.args.i c.args.place) c.entries.result.now c.entries.ensures.value
