use Rattle.program_commands.specs.Words.{paths_in, rows_in, source_files}
use Rattle.program_commands.proofs.KitLaws.{no_kit}
use Rattle.program_commands.proofs.kits.read_kit.Goals as goal

-- There are not two paths.
pub returns-in_default-read_last_paths : goal.returns-in_default-read_last_paths
returns-in_default-read_last_paths c = (
  tt,
  λ kit given. c.in_default-read_last_paths.ensures.1 (source_files kit.source, kit.out.now, kit.undo.now) given.1.0,
)

-- The name of the instrument is none.
pub returns-in_default-read_optional_name : goal.returns-in_default-read_optional_name
returns-in_default-read_optional_name c =
    (tt, λ kit given. c.in_default-read_optional_name.ensures.1 kit.instrument given.1.1.1.1.0)

-- There is no source of the recordings.
pub returns-in-None : goal.returns-in-None
returns-in-None c =
    no_kit (rows_in c.args.matches.now) (paths_in c.in-Some-read_last_paths.paths) _ _ c.is_named-is_named.result
    c.in_ok-found.found c.in-Some-read_last_paths.ensures.0 c.in-Some-read_optional_name.ensures.0
    c.in-Some-read_optional_named.ensures.0 c.is_named-is_named.ensures c.in_ok-found.ensures c.in-None.is
