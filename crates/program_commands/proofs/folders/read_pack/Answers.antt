use Rattle.std.proofs.Common.{codes}
use Rattle.program_commands.specs.Words.{AreGiven, IsGiven, Path, operands_of, rows_in}
use Rattle.program_commands.specs.declared.words.Request.TheVariants.{Pack}
use Rattle.program_commands.proofs.GetterLaws.{none_found}
use Rattle.program_commands.proofs.folders.read_pack.Goals as goal

pub returns-in_err-read_path : goal.returns-in_err-read_path
returns-in_err-read_path c =
    let rows = rows_in c.args.matches.now in
    none_found (λ paths. AreGiven rows (operands_of (Pack paths)))
    (λ path. IsGiven rows (Path (codes "FOLDER") path.now))
    c.from_residual.result c.read_path.result
    c.from_residual.ensures c.in_err-read_path.was c.read_path.ensures
    (λ paths given. (paths.folder, given.0))
