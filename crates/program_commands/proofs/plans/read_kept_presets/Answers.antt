use Rattle.program_commands.specs.Words.{rows_in}
use Rattle.program_commands.proofs.PresetLaws.{none_kept, none_kept_with_zones}
use Rattle.program_commands.proofs.plans.read_kept_presets.Goals as goal

pub returns-in-None : goal.returns-in-None
returns-in-None c = none_kept (rows_in c.args.matches.now) c.requires (rw c.in-None.is at c.in_ok-found.ensures)

-- The flag for zones is given.
pub returns-then-is_set : goal.returns-then-is_set
returns-then-is_set c =
    none_kept_with_zones (rows_in c.args.matches.now) c.requires (c.is_set.ensures.given c.if-is_set.true)
