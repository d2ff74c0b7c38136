use Rattle.sfbank.specs.PlanParts.{apart, no_bank}
use Rattle.sfbank.specs.KitSteps.{are_paths}
use Rattle.sfbank.proofs.PlanLaws.{both_pass, first_fails}
use Rattle.sfbank.proofs.program.kits.reject_table.Goals as goal

pub returns-in-Ok : goal.returns-in-Ok
returns-in-Ok g c =
    let k = c.args.work in
    let tables = are_paths c.args.tables.now in
    both_pass (λ w rest. apart w k.undo.now tables rest) (λ w rest. no_bank w k.undo.now k.force rest) _ _ _ tt
    c.reject_bank.result c.in-Ok.ensures c.reject_bank.ensures

pub returns-in-Err : goal.returns-in-Err
returns-in-Err g c =
    let k = c.args.work in
    let tables = are_paths c.args.tables.now in
    first_fails (λ w rest. apart w k.undo.now tables rest) (λ w rest. no_bank w k.undo.now k.force rest) _ _
    c.in-Err.fault c.in-Err.ensures
