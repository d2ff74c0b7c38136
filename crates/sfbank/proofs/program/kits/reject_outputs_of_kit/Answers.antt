use Rattle.sfbank.specs.PlanParts.{apart}
use Rattle.sfbank.specs.KitPlans.{script_apart}
use Rattle.sfbank.specs.KitSteps.{are_paths}
use Rattle.sfbank.proofs.PlanLaws.{both_pass, first_fails}
use Rattle.sfbank.proofs.program.kits.reject_outputs_of_kit.Goals as goal

pub returns-in-Ok : goal.returns-in-Ok
returns-in-Ok g c =
    let k = c.args.work in
    let tables = are_paths c.args.tables.now in
    both_pass (λ w rest. apart w k.out.now tables rest) (script_apart k tables) _ _ _ tt c.reject_undo_of_kit.result
    c.in-Ok.ensures c.reject_undo_of_kit.ensures

pub returns-in-Err : goal.returns-in-Err
returns-in-Err g c =
    let k = c.args.work in
    let tables = are_paths c.args.tables.now in
    first_fails (λ w rest. apart w k.out.now tables rest) (script_apart k tables) _ _ c.in-Err.fault c.in-Err.ensures
