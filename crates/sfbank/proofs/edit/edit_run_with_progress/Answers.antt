use Rattle.sfbank.proofs.Neutral.{of_every}
use Rattle.sfbank.proofs.Restores.{are_bytes, restores}
use Rattle.sfbank.proofs.RenderLaws.{restored_renders_same}
use Rattle.sfbank.proofs.edit.edit_run_with_progress.Goals as goal

pub returns-clause-runs : goal.returns-clause-runs
returns-clause-runs g c = rw (← of_every c.args.file.now c.args.script.now) c.run_script.ensures.runs

pub returns-clause-restores : goal.returns-clause-restores
returns-clause-restores g c = restores c.args.file.now c.args.script.now (are_bytes c.args.file.now c.type_inv.file)

pub returns-clause-renders : goal.returns-clause-renders
returns-clause-renders g c = restored_renders_same c.args.file.now c.args.script.now (are_bytes c.args.file.now c.type_inv.file)
