use Rattle.sfbank.proofs.Neutral.{of_neutral, runs_edits, neutrally_restores, edited_renders_same}
use Rattle.sfbank.proofs.Restores.{are_bytes}
use Rattle.sfbank.proofs.edit.neutral_run.Goals as goal

pub returns-clause-runs : goal.returns-clause-runs
returns-clause-runs g c = rw (← of_neutral c.args.file.now c.args.script.now) c.run_script.ensures.runs

pub returns-clause-edits : goal.returns-clause-edits
returns-clause-edits g c = runs_edits c.args.file.now c.args.script.now

pub returns-clause-restores : goal.returns-clause-restores
returns-clause-restores g c =
    neutrally_restores c.args.file.now c.args.script.now (are_bytes c.args.file.now c.type_inv.file)

pub returns-clause-renders : goal.returns-clause-renders
returns-clause-renders g c =
    edited_renders_same c.args.file.now c.args.script.now (are_bytes c.args.file.now c.type_inv.file)
