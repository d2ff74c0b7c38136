use Rattle.program_commands.specs.Words.{kept_operands, rows_in}
use Rattle.program_commands.specs.declared.plans.KeepPaths.{KeepPaths}
use Rattle.program_commands.proofs.PlanLaws.{none_planned}
use Rattle.program_commands.proofs.plans.read_keep.Goals as goal

pub returns-in_default : goal.returns-in_default
returns-in_default c =
    none_planned (rows_in c.args.matches.now) (λ (keep : KeepPaths). keep.paths) (λ keep. kept_operands keep.kept)
    c.in_default.ensures
