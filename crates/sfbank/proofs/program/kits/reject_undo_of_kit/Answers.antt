use Rattle.std.proofs.Common.{◌∷◌, []}
use Rattle.sfbank.specs.PlanParts.{apart}
use Rattle.sfbank.specs.KitPlans.{table_apart}
use Rattle.sfbank.specs.KitSteps.{are_paths}
use Rattle.sfbank.proofs.PlanLaws.{both_pass, first_fails}
use Rattle.sfbank.proofs.program.kits.reject_undo_of_kit.Goals as goal

pub returns-in-Ok : goal.returns-in-Ok
returns-in-Ok g c =
    let k = c.args.work in
    let tables = are_paths c.args.tables.now in
    both_pass (λ w rest. apart w k.undo.now (k.input.now ∷ k.out.now ∷ []) rest) (table_apart k tables) _ _ _ tt
    c.reject_table.result c.in-Ok.ensures c.reject_table.ensures

pub returns-in-Err : goal.returns-in-Err
returns-in-Err g c =
    let k = c.args.work in
    let tables = are_paths c.args.tables.now in
    first_fails (λ w rest. apart w k.undo.now (k.input.now ∷ k.out.now ∷ []) rest) (table_apart k tables) _ _
    c.in-Err.fault c.in-Err.ensures
