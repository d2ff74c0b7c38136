use Rattle.std.proofs.Common.{rules}
use Rattle.generators.proofs.Maps.{FitGens_held, len_held}
use Rattle.generators.proofs.EntryLaws.{length_bounded}
use Rattle.generators.proofs.gen_map.GenMap.len.Goals as goal

pub returns-clause-counted : goal.returns-clause-counted
returns-clause-counted c = rw (len_held c.self.invariant c.self.view_is) (search rules)

pub returns-clause-few : goal.returns-clause-few
returns-clause-few c = let few = length_bounded c.self.inside.entries.items c.self.invariant in search rules

pub returns-clause-fit : goal.returns-clause-fit
returns-clause-fit c = FitGens_held c.self.invariant c.self.view_is
