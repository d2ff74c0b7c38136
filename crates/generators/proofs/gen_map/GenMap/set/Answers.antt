use Rattle.std.proofs.Common.{sym, arith, rules}
use Rattle.generators.proofs.Maps.{at_within, get_at, AreGens-set, set_is_insert, gap_within, get_gap, none_in_gap}
use Rattle.generators.proofs.Maps.{AreGens-insert, inserted_is_insert}
use Rattle.generators.proofs.gen_map.GenMap.set.Goals as goal

-- The operator was set.
pub index-requires : goal.index-requires
index-requires c = let within = at_within c.self.invariant c.self.view_is c.in-Ok.ensures.found in search rules

pub index_mut-requires : goal.index_mut-requires
index_mut-requires c = let within = at_within c.self.invariant c.self.view_is c.in-Ok.ensures.found in search rules

pub invariant_of-self : goal.invariant_of-self
invariant_of-self c =
    AreGens-set c.self.invariant c.self.view_is c.in-Ok.ensures.found c.args.amount (omega arith) (omega arith)

pub returns-in-Ok-clause-was : goal.returns-in-Ok-clause-was
returns-in-Ok-clause-was c =
    let was = get_at c.self.invariant c.self.view_is c.in-Ok.ensures.found c.index.result.now in
    cc (was, c.index.ensures)

pub returns-in-Ok-clause-ok : goal.returns-in-Ok-clause-ok
returns-in-Ok-clause-ok c =
    set_is_insert c.self.invariant c.self.view_is c.in-Ok.ensures.found c.args.amount (omega arith) (omega arith)

-- It was not set.
pub insert-requires : goal.insert-requires
insert-requires c = let within = gap_within c.self.invariant c.self.view_is c.in-Err.ensures.absent in search rules

pub returns-in_err-insert-in-Err-clause-needs_no_memory :
    goal.returns-in_err-insert-in-Err-clause-needs_no_memory
returns-in_err-insert-in-Err-clause-needs_no_memory c there =
    absurd (none_in_gap c.self.invariant c.self.view_is c.in-Err.ensures.absent there)

pub invariant_of-self-in-Err : goal.invariant_of-self-in-Err
invariant_of-self-in-Err c =
    rw c.in_ok-insert-in-Err.ensures.items
    (AreGens-insert c.self.invariant c.self.view_is c.in-Err.ensures.absent c.args.amount (omega arith)
    (omega arith))

pub returns-in_ok-insert-in-Err-clause-was : goal.returns-in_ok-insert-in-Err-clause-was
returns-in_ok-insert-in-Err-clause-was c = sym (get_gap c.self.invariant c.self.view_is c.in-Err.ensures.absent)

pub returns-in_ok-insert-in-Err-clause-ok : goal.returns-in_ok-insert-in-Err-clause-ok
returns-in_ok-insert-in-Err-clause-ok c =
    rw c.in_ok-insert-in-Err.ensures.items
    (inserted_is_insert c.self.invariant c.self.view_is c.in-Err.ensures.absent c.args.amount (omega arith)
    (omega arith))
