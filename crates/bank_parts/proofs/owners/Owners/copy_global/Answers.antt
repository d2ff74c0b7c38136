use Rattle.std.proofs.Common.{slice_get}
use Rattle.bank_parts.proofs.CopyLaws.{global_of}
use Rattle.bank_parts.proofs.owners.Owners.copy_global.Goals as goal

pub returns : goal.returns
returns g c =
    global_of (slice_get c.args.self.now c.args.i) c.in_ok-gens.gens c.in_ok-mods.mods c.in_ok-gens.ensures
    c.in_ok-mods.ensures
