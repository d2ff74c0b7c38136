use Rattle.std.proofs.Common.{◌≡◌, take}
use Rattle.script_comments.proofs.along.copy_steps.Given as goal

-- the steps so far are copied
abbrev pub invariant-loop-step : goal.invariant-loop-step
invariant-loop-step l = l.copy ≡ take l.step-index l.steps
