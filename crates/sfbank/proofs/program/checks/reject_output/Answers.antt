use Rattle.std.proofs.Common.{map}
use Rattle.sfbank.specs.PlanParts.{apart, no_bank}
use Rattle.sfbank.proofs.PlanLaws.{both_pass, first_fails}
use Rattle.sfbank.proofs.program.checks.reject_output.Goals as goal

pub returns-in-Ok : goal.returns-in-Ok
returns-in-Ok g c =
    let script = c.args.output.now in
    both_pass (λ w rest. apart w script (map (λ other. other.now) c.args.others.now) rest)
    (λ w rest. no_bank w script c.args.force rest) _ _ _ tt c.reject_bank.result c.in-Ok.ensures c.reject_bank.ensures

pub returns-in-Err : goal.returns-in-Err
returns-in-Err g c =
    let script = c.args.output.now in
    first_fails (λ w rest. apart w script (map (λ other. other.now) c.args.others.now) rest)
    (λ w rest. no_bank w script c.args.force rest) _ _ c.in-Err.fault c.in-Err.ensures
