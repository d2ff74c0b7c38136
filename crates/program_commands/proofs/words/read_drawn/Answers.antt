-- What the words ask to draw has a number that they give.
use Rattle.std.proofs.Common.{codes}
use Rattle.program_commands.specs.Words.{AreGiven, IsGiven, Number, drawn_number, drawn_operands, rows_in}
use Rattle.program_commands.proofs.GetterLaws.{none_found}
use Rattle.program_commands.proofs.words.read_drawn.Goals as goal

pub returns-in_err-number : goal.returns-in_err-number
returns-in_err-number c =
    let rows = rows_in c.args.matches.now in
    none_found (λ drawn. AreGiven rows (drawn_operands drawn))
    (λ n. IsGiven rows (Number (codes "N") 32 n))
    c.from_residual-in_err-number.result c.read_number.result
    c.from_residual-in_err-number.ensures c.in_err-number.was c.read_number.ensures
    (λ drawn given. (drawn_number drawn, given.1.0))
