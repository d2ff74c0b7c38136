use Rattle.script_comments.proofs.OwnerLaws.{IsAnyLeft}
use Rattle.script_comments.proofs.owners.zone_of_owner_has.Given as goal

-- the zones before do not have the operator
abbrev pub invariant-loop-k : goal.invariant-loop-k
invariant-loop-k g l = IsAnyLeft l.owners l.i l.operator l.k
