use Rattle.std.proofs.Common.{◌≡◌}
use Rattle.plan_take.proofs.new_targets.set_targets.Given as goal

abbrev pub invariant-loop-k : goal.invariant-loop-k
invariant-loop-k g l = l.draft.first ≡ l.fn.draft.first
