-- Edits that move samples.
use Rattle.bank_changes.specs.declared.sample_moves.SampleMove.{SampleMove}
use Rattle.edit_forms.specs.declared.samples.SampleStep.TheVariants.{MoveSample}
use Rattle.edit_forms.specs.declared.step.Step.{Step}
use Rattle.edit_forms.specs.declared.step.Step.TheVariants as steps
use Rattle.edit_forms.specs.declared.edit.Edit.{Edit}
use Rattle.edit_forms.specs.declared.edit.Edit.TheVariants.{One}

abbrev pub move_step : SampleMove → Step
move_step m = steps.Sample (MoveSample m.from m.to)

abbrev pub move_edit : SampleMove → Edit
move_edit m = One (move_step m)
