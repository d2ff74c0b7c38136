use Rattle.std.proofs.Common.{[], ◌∷◌}
use Rattle.sfbank.specs.PlanParts.{SavesFile}
use Rattle.sfbank.proofs.PlanLaws.{saved_none}
use Rattle.sfbank.proofs.SavedFolders.{saved_one, spoiled_one}
use Rattle.sfbank.proofs.program.saved_folder.save_in.Goals as goal

pub returns-in-Ok : goal.returns-in-Ok
returns-in-Ok g c = saved_one c.args.path.now (g.T.Text.bytes c.args.text.now) _ _ c.in-Ok.ensures.saved

pub returns-in-Err-OutOfMemory : goal.returns-in-Err-OutOfMemory
returns-in-Err-OutOfMemory g c =
    saved_none (SavesFile c.args.path.now (g.T.Text.bytes c.args.text.now) ∷ []) _ _
    (rw c.in-Err-OutOfMemory.field-0-is at c.in-Err-OutOfMemory.ensures.failed)

pub returns-in-Err-Fault : goal.returns-in-Err-Fault
returns-in-Err-Fault g c =
    spoiled_one c.args.folder c.args.path.now (g.T.Text.bytes c.args.text.now) _ _ _ c.in-Err-Fault.fault.written c.write_fault.result _
    c.write_fault.ensures (rw c.in-Err-Fault.field-0-is at c.in-Err-Fault.ensures.counted)
    (rw c.in-Err-Fault.field-0-is at c.in-Err-Fault.ensures.failed)
