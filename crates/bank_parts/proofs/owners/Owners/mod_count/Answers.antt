use Rattle.std.proofs.Common.{length, ap}
use Rattle.std.specs.Option.{option_map}
use Rattle.bank_parts.proofs.owners.Owners.mod_count.Goals as goal

pub returns : goal.returns
returns g c = ap (option_map length) c.mods.ensures
