use Rattle.edit_refusals.proofs.presets.refuse_preset_step.Goals as goal

pub returns-in-SetHead : goal.returns-in-SetHead
returns-in-SetHead c = rw c.in-SetHead.is (c.refuse_set_head.ensures _ _ _)
