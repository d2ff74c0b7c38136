use Rattle.std.proofs.Common.{take}
use Rattle.std.specs.List.{AllByRecursion}
use Rattle.edit_forms.specs.Fits.{FitsStep}
use Rattle.edit_forms.proofs.edit.steps_fit.Given as goal

abbrev pub invariant-loop-step : goal.invariant-loop-step
invariant-loop-step l = AllByRecursion FitsStep (take l.step-index l.steps)
