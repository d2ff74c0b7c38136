use Rattle.std.proofs.Common.{rules}
use Rattle.generators.proofs.Maps.{entries_held, FitGens_held}
use Rattle.generators.proofs.gen_map.GenMap.entries.Goals as goal

pub returns-clause-all : goal.returns-clause-all
returns-clause-all c = rw (entries_held c.self.invariant c.self.view_is) (search rules)

pub returns-clause-fit : goal.returns-clause-fit
returns-clause-fit c = FitGens_held c.self.invariant c.self.view_is
