use Rattle.std.proofs.Common.{codes}
use Rattle.program_commands.specs.Words.{AreGiven, IsGiven, Path, operands_of, rows_in}
use Rattle.program_commands.specs.declared.words.Request.TheVariants.{Unpack}
use Rattle.program_commands.proofs.GetterLaws.{none_found}
use Rattle.program_commands.proofs.folders.read_unpack.Goals as goal

pub returns-in_err-read_path : goal.returns-in_err-read_path
returns-in_err-read_path c =
    let rows = rows_in c.args.matches.now in
    none_found (λ paths. AreGiven rows (operands_of (Unpack paths)))
    (λ path. IsGiven rows (Path (codes "FOLDER") path.now))
    c.from_residual-in_err-read_path.result c.read_path.result
    c.from_residual-in_err-read_path.ensures c.in_err-read_path.was c.read_path.ensures
    (λ paths given. (paths.folder, given.1.0))
