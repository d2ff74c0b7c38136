use Rattle.std.proofs.Common.{[], ◌∷◌, codes}
use Rattle.program_commands.specs.Words.{AreGiven, Input, IsGiven, Number, merge_operands, plan_operands, rows_in}
use Rattle.program_commands.proofs.GetterLaws.{none_found}
use Rattle.program_commands.proofs.PlanLaws.{given_first}
use Rattle.program_commands.proofs.plans.read_merge.Goals as goal

pub returns-in_err-read_plan : goal.returns-in_err-read_plan
returns-in_err-read_plan c =
    let rows = rows_in c.args.matches.now in
    none_found (λ merge. AreGiven rows (merge_operands merge)) (λ paths. AreGiven rows (plan_operands paths))
    c.from_residual.result c.read_plan.result c.from_residual.ensures
    c.in_err-read_plan.was c.read_plan.ensures
    (λ merge given. (
      merge.paths,
      given_first rows (plan_operands merge.paths)
          (Input (codes "FROM") merge.from.now ∷ Number (codes "shift") 16 merge.shift ∷ []) given,
    ))

pub returns-in_err-read_small : goal.returns-in_err-read_small
returns-in_err-read_small c =
    let rows = rows_in c.args.matches.now in
    none_found (λ merge. AreGiven rows (merge_operands merge))
    (λ n. IsGiven rows (Number (codes "shift") 16 n))
    c.from_residual-in_err-read_small.result c.read_small.result
    c.from_residual-in_err-read_small.ensures c.in_err-read_small.was c.read_small.ensures
    (λ merge given. (merge.shift, given.1.1.1.1.1.1.1.1.1.0))
