use Rattle.std.proofs.Common.{sym, rules}
use Rattle.generators.proofs.Maps.{at_within, get_at, get_gap}
use Rattle.generators.proofs.gen_map.GenMap.get.Goals as goal

-- The operator is set.
pub index-requires : goal.index-requires
index-requires c = let within = at_within c.self.invariant c.self.view_is c.in-Ok.ensures.found in search rules

pub returns-in-Ok : goal.returns-in-Ok
returns-in-Ok c =
    let was = get_at c.self.invariant c.self.view_is c.in-Ok.ensures.found c.index.result.now in
    cc (was, c.index.ensures)

-- It is not set.
pub returns-in-Err : goal.returns-in-Err
returns-in-Err c = sym (get_gap c.self.invariant c.self.view_is c.in-Err.ensures.absent)
