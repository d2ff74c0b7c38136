use Rattle.std.proofs.Common.{codes}
use Rattle.program_commands.specs.Words.{AreGiven, IsGiven, Path, operands_of, rows_in}
use Rattle.program_commands.specs.declared.words.Request.TheVariants.{Live}
use Rattle.program_commands.proofs.GetterLaws.{none_found}
use Rattle.program_commands.proofs.words.read_live.Goals as goal

pub returns-in_err-read_path : goal.returns-in_err-read_path
returns-in_err-read_path c =
    let rows = rows_in c.args.matches.now in
    none_found (λ paths. AreGiven rows (operands_of (Live paths)))
    (λ path. IsGiven rows (Path (codes "PCM") path.now))
    c.from_residual-in_err-read_path.result c.read_path.result
    c.from_residual-in_err-read_path.ensures c.in_err-read_path.was c.read_path.ensures
    (λ paths given. (paths.pcm, given.1.0))
