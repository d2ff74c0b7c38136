use Rattle.std.proofs.Common.{◌≡◌}
use Rattle.plan_edits.proofs.unselected.remove_unselected.Given as goal

abbrev pub invariant-loop-preset : goal.invariant-loop-preset
invariant-loop-preset l = l.draft.first ≡ l.fn.draft.first

abbrev pub invariant-loop-instrument : goal.invariant-loop-instrument
invariant-loop-instrument l = l.draft.first ≡ l.fn.draft.first
