use Rattle.edit_refusals.proofs.samples.refuse_sample_step.Goals as goal

pub returns-in-RenameSample : goal.returns-in-RenameSample
returns-in-RenameSample c = rw c.in-RenameSample.is (c.refuse_rename_sample.ensures _)

pub returns-in-MoveSample : goal.returns-in-MoveSample
returns-in-MoveSample c = rw c.in-MoveSample.is c.refuse_move_sample.ensures
