use Rattle.std.proofs.Common.{[], ◌∷◌, codes}
use Rattle.program_commands.specs.Words.{AreGiven, Flag, plan_operands, rows_in, tidy_operands}
use Rattle.program_commands.proofs.GetterLaws.{none_found}
use Rattle.program_commands.proofs.PlanLaws.{given_first}
use Rattle.program_commands.proofs.plans.read_tidy.Goals as goal

pub returns-in_err-read_plan : goal.returns-in_err-read_plan
returns-in_err-read_plan c =
    let rows = rows_in c.args.matches.now in
    none_found (λ tidy. AreGiven rows (tidy_operands tidy)) (λ paths. AreGiven rows (plan_operands paths))
    c.from_residual.result c.read_plan.result c.from_residual.ensures
    c.in_err-read_plan.was c.read_plan.ensures
    (λ tidy given. (
      tidy.paths,
      given_first rows (plan_operands tidy.paths) (Flag (codes "merge") tidy.merge ∷ []) given,
    ))
