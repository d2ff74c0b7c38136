use Rattle.std.proofs.Common.{◌∷◌, []}
use Rattle.sfbank.specs.PlanParts.{apart}
use Rattle.sfbank.specs.Steps.{undo_part}
use Rattle.sfbank.proofs.PlanLaws.{both_pass, first_fails}
use Rattle.sfbank.proofs.program.checks.reject_outputs.Goals as goal

pub returns-in-Ok : goal.returns-in-Ok
returns-in-Ok g c =
    let p = c.args.paths in
    both_pass (λ w rest. apart w p.out.now (p.other.now ∷ []) rest) (undo_part p) _ _ _ tt c.reject_undo.result
    c.in-Ok.ensures c.reject_undo.ensures

pub returns-in-Err : goal.returns-in-Err
returns-in-Err g c =
    let p = c.args.paths in
    first_fails (λ w rest. apart w p.out.now (p.other.now ∷ []) rest) (undo_part p) _ _ c.in-Err.fault c.in-Err.ensures
