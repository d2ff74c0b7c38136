use Rattle.std.proofs.Common.{[], ◌∷◌, codes}
use Rattle.program_commands.specs.Words.{Input, Taken, rows_in}
use Rattle.program_commands.specs.declared.plans.TakePaths.{TakePaths}
use Rattle.program_commands.proofs.PresetLaws.{none_taken}
use Rattle.program_commands.proofs.PlanLaws.{none_planned}
use Rattle.program_commands.proofs.plans.read_take.Goals as goal

pub returns-in_default : goal.returns-in_default
returns-in_default c =
    none_planned (rows_in c.args.matches.now) (λ (take : TakePaths). take.paths)
    (λ take. Input (codes "FROM") take.from.now ∷ Taken (codes "preset") take.presets.items ∷ []) c.in_default.ensures

pub returns-in-None : goal.returns-in-None
returns-in-None c = none_taken (rows_in c.args.matches.now) (rw c.in-None.is at c.in_ok-named.ensures)
