use Rattle.plan_copy.specs.Copying.{IsCopying, copies}
use Rattle.sfbank.specs.Outcome.{bank_in}
use Rattle.sfbank.specs.Purposes.{Copying, copying}
use Rattle.sfbank.proofs.Restores.{are_bytes}
use Rattle.sfbank.proofs.PlannedEdits.{copy_renders_same, others_render_same, plan_is_undone, run_fails}
use Rattle.sfbank.proofs.planned.copy_run.Goals as goal

pub returns-in-Ok-clause-runs : goal.returns-in-Ok-clause-runs
returns-in-Ok-clause-runs g c =
    let file = c.args.file.now in
    let found = c.in-Ok.ensures c.args.name in
    c.run_edits.ensures (Copying c.args.member c.args.name) (copying file c.args.member c.args.name) file
    (λ b edits h. h) found.1 found.0

pub returns-in-Err-clause-runs : goal.returns-in-Err-clause-runs
returns-in-Err-clause-runs g c =
    run_fails (Unit {0}) (copying c.args.file.now c.args.member c.args.name) (g.W.Write.contents c.args.out.now)
    (g.V.Write.contents c.args.undo.now) c.args.file.now c.in-Err.fault (c.in-Err.ensures c.args.name)

pub returns-in-Ok-clause-restores : goal.returns-in-Ok-clause-restores
returns-in-Ok-clause-restores g c =
    plan_is_undone (IsCopying c.args.member c.args.name) c.args.file.now (are_bytes c.args.file.now c.type_inv.file)

pub returns-in-Err-clause-restores : goal.returns-in-Err-clause-restores
returns-in-Err-clause-restores g c =
    plan_is_undone (IsCopying c.args.member c.args.name) c.args.file.now (are_bytes c.args.file.now c.type_inv.file)

pub returns-in-Ok-clause-copy : goal.returns-in-Ok-clause-copy
returns-in-Ok-clause-copy g c =
    copy_renders_same c.args.member c.args.name c.args.file.now (are_bytes c.args.file.now c.type_inv.file)

pub returns-in-Err-clause-copy : goal.returns-in-Err-clause-copy
returns-in-Err-clause-copy g c =
    copy_renders_same c.args.member c.args.name c.args.file.now (are_bytes c.args.file.now c.type_inv.file)

pub returns-in-Ok-clause-others : goal.returns-in-Ok-clause-others
returns-in-Ok-clause-others g c =
    others_render_same (IsCopying c.args.member c.args.name) (copies (bank_in c.args.file.now) c.args.member)
    c.args.file.now (λ edits h. h.others) (are_bytes c.args.file.now c.type_inv.file)

pub returns-in-Err-clause-others : goal.returns-in-Err-clause-others
returns-in-Err-clause-others g c =
    others_render_same (IsCopying c.args.member c.args.name) (copies (bank_in c.args.file.now) c.args.member)
    c.args.file.now (λ edits h. h.others) (are_bytes c.args.file.now c.type_inv.file)
