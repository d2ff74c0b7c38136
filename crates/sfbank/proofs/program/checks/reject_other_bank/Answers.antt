use Rattle.sfbank.proofs.PlanLaws.{other_bank}
use Rattle.sfbank.proofs.program.checks.reject_other_bank.Goals as goal

pub returns-in-Ok : goal.returns-in-Ok
returns-in-Ok g c =
    other_bank _ _ _ c.args.output.now c.args.input.now c.args.force c.in-Ok.is_input c.is_either.result
    c.reject_bank.result c.is_either.ensures c.in-Ok.ensures.found c.is_one_file.ensures.stays c.reject_bank.ensures
