use Rattle.std.proofs.Common.{ℕ, slice_get, Ok}
use Rattle.bank_parts.specs.declared.owners.ZonePlace.TheVariants as place
use Rattle.bank_parts.specs.Owners.{gens_at}
use Rattle.bank_parts.proofs.CopyLaws.{gens_held, gens_copied, global_of}
use Rattle.commented_scripts.proofs.copies.copy_global.Goals as goal

pub from_entries-requires : goal.from_entries-requires
from_entries-requires g c =
    gens_held (gens_at c.args.owners.now c.args.i place.Global) c.entries.result.now c.entries.ensures.value
    c.entries.ensures.fits

pub returns : goal.returns
returns g c =
    let owner = slice_get c.args.owners.now c.args.i in
    global_of owner c.in_ok-gens.gens c.from_vec.result
    (gens_copied {E = ℕ} (gens_at c.args.owners.now c.args.i place.Global) c.entries.result.now (Ok c.in_ok-gens.gens)
    c.entries.ensures.value c.in_ok-gens.ensures)
    (rw (c.from_vec.ensures, c.in_ok-mods.ensures.items) c.mods.ensures)
