use Rattle.sfbank.specs.Purposes.{Taking, taking}
use Rattle.sfbank.proofs.Restores.{are_bytes}
use Rattle.plan_take.specs.Taking.{IsTaking}
use Rattle.sfbank.specs.Outcome.{bank_in}
use Rattle.sfbank.proofs.PlannedEdits.{plan_is_undone, run_fails, taken_render_same, others_render_same}
use Rattle.sfbank.proofs.planned.take_run.Goals as goal

pub returns-in-Ok-clause-runs : goal.returns-in-Ok-clause-runs
returns-in-Ok-clause-runs g c =
    let file = c.args.file.now in
    let presets = c.args.presets.now in
    c.run_edits.ensures (Taking c.in-Ok.from presets) (taking file c.args.other.now presets) file (λ b edits h. h)
    c.in-Ok.ensures.1 c.in-Ok.ensures.0

pub returns-in-Err-clause-runs : goal.returns-in-Err-clause-runs
returns-in-Err-clause-runs g c =
    run_fails (Unit {0}) (taking c.args.file.now c.args.other.now c.args.presets.now) (g.W.Write.contents c.args.out.now)
    (g.V.Write.contents c.args.undo.now) c.args.file.now c.in-Err.fault c.in-Err.ensures

pub returns-in-Ok-clause-restores : goal.returns-in-Ok-clause-restores
returns-in-Ok-clause-restores g c =
    plan_is_undone (IsTaking (bank_in c.args.other.now) c.args.presets.now) c.args.file.now
    (are_bytes c.args.file.now c.type_inv.file)

pub returns-in-Err-clause-restores : goal.returns-in-Err-clause-restores
returns-in-Err-clause-restores g c =
    plan_is_undone (IsTaking (bank_in c.args.other.now) c.args.presets.now) c.args.file.now
    (are_bytes c.args.file.now c.type_inv.file)

pub returns-in-Ok-clause-taken : goal.returns-in-Ok-clause-taken
returns-in-Ok-clause-taken g c =
    taken_render_same (IsTaking (bank_in c.args.other.now) c.args.presets.now) c.args.other.now c.args.presets.now
    c.args.file.now (λ b edits h. h) (are_bytes c.args.file.now c.type_inv.file)

pub returns-in-Err-clause-taken : goal.returns-in-Err-clause-taken
returns-in-Err-clause-taken g c =
    taken_render_same (IsTaking (bank_in c.args.other.now) c.args.presets.now) c.args.other.now c.args.presets.now
    c.args.file.now (λ b edits h. h) (are_bytes c.args.file.now c.type_inv.file)

pub returns-in-Ok-clause-others : goal.returns-in-Ok-clause-others
returns-in-Ok-clause-others g c =
    others_render_same (IsTaking (bank_in c.args.other.now) c.args.presets.now) c.args.presets.now c.args.file.now
    (λ edits h. h.others) (are_bytes c.args.file.now c.type_inv.file)

pub returns-in-Err-clause-others : goal.returns-in-Err-clause-others
returns-in-Err-clause-others g c =
    others_render_same (IsTaking (bank_in c.args.other.now) c.args.presets.now) c.args.presets.now c.args.file.now
    (λ edits h. h.others) (are_bytes c.args.file.now c.type_inv.file)
