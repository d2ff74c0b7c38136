use Rattle.bank_parts.specs.Owners.{gens_at}
use Rattle.bank_parts.proofs.CopyLaws.{gens_held, gens_copied}
use Rattle.bank_parts.proofs.owners.Owners.copy_gens.Goals as goal

pub from_entries-requires : goal.from_entries-requires
from_entries-requires g c =
    gens_held (gens_at c.args.self.now c.args.i c.args.place) c.entries.result.now c.entries.ensures.value
    c.entries.ensures.fits

pub returns : goal.returns
returns g c =
    gens_copied (gens_at c.args.self.now c.args.i c.args.place) c.entries.result.now c.from_entries.result
    c.entries.ensures.value c.from_entries.ensures
