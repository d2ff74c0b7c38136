use Rattle.std.proofs.Common.{◌≡◌}
use Rattle.plan_take.proofs.new_targets.set_preset_targets.Given as goal

abbrev pub invariant-loop-i : goal.invariant-loop-i
invariant-loop-i l = l.draft.first ≡ l.fn.draft.first
