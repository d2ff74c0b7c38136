use Rattle.plan_edits.specs.Keeping.{IsKeeping}
use Rattle.sfbank.specs.Purposes.{Keeping}
use Rattle.sfbank.proofs.Restores.{are_bytes}
use Rattle.sfbank.proofs.PlannedEdits.{plan_is_undone, kept_renders_same}
use Rattle.sfbank.proofs.planned.keep_run.Goals as goal

pub returns-clause-runs : goal.returns-clause-runs
returns-clause-runs g c = c.run_plan.ensures (Keeping c.args.presets.now) (λ b edits h. h)

pub returns-clause-restores : goal.returns-clause-restores
returns-clause-restores g c =
    plan_is_undone (IsKeeping c.args.presets.now) c.args.file.now (are_bytes c.args.file.now c.type_inv.file)

pub returns-clause-renders : goal.returns-clause-renders
returns-clause-renders g c =
    kept_renders_same c.args.presets.now c.args.file.now (are_bytes c.args.file.now c.type_inv.file)
