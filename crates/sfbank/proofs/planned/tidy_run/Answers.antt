use Rattle.sfbank.specs.Purposes.{RemovingDuplicates, Tidying, promise_of, tidying_with}
use Rattle.sfbank.proofs.Restores.{are_bytes}
use Rattle.sfbank.proofs.PlannedEdits.{plan_is_undone, tidied_renders_same}
use Rattle.sfbank.proofs.planned.tidy_run.Goals as goal

pub returns-then-merge-clause-runs : goal.returns-then-merge-clause-runs
returns-then-merge-clause-runs g c = rw c.if-merge.true (c.run_plan.ensures RemovingDuplicates (λ b edits h. h))

pub returns-else-merge-clause-runs : goal.returns-else-merge-clause-runs
returns-else-merge-clause-runs g c = rw c.if-merge.false (c.run_plan-else-merge.ensures Tidying (λ b edits h. h))

pub returns-then-merge-clause-restores : goal.returns-then-merge-clause-restores
returns-then-merge-clause-restores g c =
    plan_is_undone (promise_of (tidying_with c.args.merge)) c.args.file.now (are_bytes c.args.file.now c.type_inv.file)

pub returns-else-merge-clause-restores : goal.returns-else-merge-clause-restores
returns-else-merge-clause-restores g c =
    plan_is_undone (promise_of (tidying_with c.args.merge)) c.args.file.now (are_bytes c.args.file.now c.type_inv.file)

pub returns-then-merge-clause-renders : goal.returns-then-merge-clause-renders
returns-then-merge-clause-renders g c =
    tidied_renders_same c.args.merge c.args.file.now (are_bytes c.args.file.now c.type_inv.file)

pub returns-else-merge-clause-renders : goal.returns-else-merge-clause-renders
returns-else-merge-clause-renders g c =
    tidied_renders_same c.args.merge c.args.file.now (are_bytes c.args.file.now c.type_inv.file)
