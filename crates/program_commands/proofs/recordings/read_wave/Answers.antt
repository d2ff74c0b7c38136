use Rattle.std.proofs.Common.{codes}
use Rattle.program_commands.specs.Words.{AreGiven, IsGiven, Number, operands_of, rows_in}
use Rattle.program_commands.specs.declared.words.Request.TheVariants.{Wave}
use Rattle.program_commands.proofs.GetterLaws.{none_found}
use Rattle.program_commands.proofs.recordings.read_wave.Goals as goal

pub returns-in_err-read_number : goal.returns-in_err-read_number
returns-in_err-read_number c =
    let rows = rows_in c.args.matches.now in
    none_found (λ paths. AreGiven rows (operands_of (Wave paths)))
    (λ n. IsGiven rows (Number (codes "S") 32 n))
    c.from_residual-in_err-read_number.result c.read_number.result
    c.from_residual-in_err-read_number.ensures c.in_err-read_number.was c.read_number.ensures
    (λ paths given. (paths.sample, given.1.0))
