use Rattle.std.proofs.Common.{◌∷◌, codes}
use Rattle.program_commands.specs.Words.{AreGiven, copy_operands, member_operands, optional_name, plan_operands, rows_in}
use Rattle.program_commands.proofs.GetterLaws.{none_found}
use Rattle.program_commands.proofs.PlanLaws.{given_first}
use Rattle.program_commands.proofs.plans.read_copy.Goals as goal

pub returns-in_err-read_plan : goal.returns-in_err-read_plan
returns-in_err-read_plan c =
    let rows = rows_in c.args.matches.now in
    none_found (λ copy. AreGiven rows (copy_operands copy)) (λ paths. AreGiven rows (plan_operands paths))
    c.from_residual.result c.read_plan.result c.from_residual.ensures
    c.in_err-read_plan.was c.read_plan.ensures
    (λ copy given. (
      copy.paths,
      given_first rows (plan_operands copy.paths)
          (optional_name (codes "name") copy.name ∷ member_operands copy.member) given,
    ))
