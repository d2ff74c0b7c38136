use Rattle.std.proofs.Common.{codes}
use Rattle.program_commands.specs.Words.{AreGiven, IsGiven, Number, operands_of, rows_in}
use Rattle.program_commands.specs.declared.words.Request.TheVariants.{New}
use Rattle.program_commands.proofs.GetterLaws.{none_found}
use Rattle.program_commands.proofs.words.read_new.Goals as goal

pub returns-in_err-read_small : goal.returns-in_err-read_small
returns-in_err-read_small c =
    let rows = rows_in c.args.matches.now in
    none_found (λ bank. AreGiven rows (operands_of (New bank)))
    (λ n. IsGiven rows (Number (codes "minor") 16 n))
    c.from_residual-in_err-read_small.result c.read_small.result
    c.from_residual-in_err-read_small.ensures c.in_err-read_small.was c.read_small.ensures
    (λ bank given. (bank.minor, given.1.0))
