use Rattle.std.proofs.Common.{sym, rules}
use Rattle.generators.proofs.Maps.{at_within, get_at, AreGens-remove, removed_is_remove, get_gap, remove_gap}
use Rattle.generators.proofs.gen_map.GenMap.clear.Goals as goal

-- The operator was set.
pub remove-requires : goal.remove-requires
remove-requires c = let within = at_within c.self.invariant c.self.view_is c.in-Ok.ensures.found in search rules

pub invariant_of-self : goal.invariant_of-self
invariant_of-self c = rw c.remove.ensures.items (AreGens-remove c.self.invariant c.self.view_is c.in-Ok.ensures.found)

pub returns-in-Ok-clause-was : goal.returns-in-Ok-clause-was
returns-in-Ok-clause-was c =
    let was = get_at c.self.invariant c.self.view_is c.in-Ok.ensures.found c.remove.result in
    cc (was, c.remove.ensures.value)

pub returns-in-Ok-clause-cleared : goal.returns-in-Ok-clause-cleared
returns-in-Ok-clause-cleared c =
    rw c.remove.ensures.items (removed_is_remove c.self.invariant c.self.view_is c.in-Ok.ensures.found)

-- It was not set.
pub returns-in-Err-clause-was : goal.returns-in-Err-clause-was
returns-in-Err-clause-was c = sym (get_gap c.self.invariant c.self.view_is c.in-Err.ensures.absent)

pub returns-in-Err-clause-cleared : goal.returns-in-Err-clause-cleared
returns-in-Err-clause-cleared c = sym (remove_gap c.self.invariant c.self.view_is c.in-Err.ensures.absent)
