use Rattle.std.proofs.Common.{arith}
use Rattle.std.proofs.lemmas.Grind.{common_steps}
use Rattle.std.proofs.lemmas.Option.{gets}
use Rattle.generators.proofs.Maps.{entries_held}
use Rattle.generators.proofs.gen_map.GenMap.at.Goals as goal

pub returns : goal.returns
returns c =
    rw (entries_held c.self.invariant c.self.view_is, ← c.deref.ensures.value) (grind (arith, common_steps, gets))
