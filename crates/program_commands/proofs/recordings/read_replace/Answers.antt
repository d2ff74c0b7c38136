use Rattle.std.proofs.Common.{codes}
use Rattle.program_commands.specs.Words.{AreGiven, IsGiven, Number, operands_of, option_operands, rows_in}
use Rattle.program_commands.specs.declared.words.Request.TheVariants.{Replace}
use Rattle.program_commands.proofs.GetterLaws.{none_found}
use Rattle.program_commands.proofs.recordings.read_replace.Goals as goal

pub returns-in_err-read_number : goal.returns-in_err-read_number
returns-in_err-read_number c =
    let rows = rows_in c.args.matches.now in
    none_found (λ paths. AreGiven rows (operands_of (Replace paths)))
    (λ n. IsGiven rows (Number (codes "S") 32 n))
    c.from_residual-in_err-read_number.result c.read_number.result
    c.from_residual-in_err-read_number.ensures c.in_err-read_number.was c.read_number.ensures
    (λ paths given. (paths.sample, given.1.0))

pub returns-in_err-read_options : goal.returns-in_err-read_options
returns-in_err-read_options c =
    let rows = rows_in c.args.matches.now in
    none_found (λ paths. AreGiven rows (operands_of (Replace paths)))
    (λ options. AreGiven rows (option_operands options))
    c.from_residual-in_err-read_options.result c.read_options.result
    c.from_residual-in_err-read_options.ensures c.in_err-read_options.was c.read_options.ensures
    (λ paths given. (paths.options, given.1.1.1.1.1.1))
