use Rattle.std.proofs.Common.{◌∷◌, []}
use Rattle.sfbank.specs.PlanParts.{apart, no_bank, script_apart}
use Rattle.sfbank.proofs.PlanLaws.{both_pass, first_fails}
use Rattle.sfbank.proofs.program.checks.reject_undo_of_plan.Goals as goal

pub returns-in-Ok : goal.returns-in-Ok
returns-in-Ok g c =
    let p = c.args.paths in
    both_pass (λ w rest. apart w p.undo.now (p.input.now ∷ p.out.now ∷ []) (no_bank w p.undo.now p.force rest))
    (λ w rest. script_apart w p.script (p.input.now ∷ p.out.now ∷ p.undo.now ∷ []) p.force rest) _ _ _ tt
    c.reject_optional.result c.in-Ok.ensures c.reject_optional.ensures

pub returns-in-Err : goal.returns-in-Err
returns-in-Err g c =
    let p = c.args.paths in
    first_fails (λ w rest. apart w p.undo.now (p.input.now ∷ p.out.now ∷ []) (no_bank w p.undo.now p.force rest))
    (λ w rest. script_apart w p.script (p.input.now ∷ p.out.now ∷ p.undo.now ∷ []) p.force rest) _ _ c.in-Err.fault
    c.in-Err.ensures
