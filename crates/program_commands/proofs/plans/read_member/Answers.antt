-- What the words name has a number that they give, and numbers only if they give them.
use Rattle.std.proofs.Common.{codes}
use Rattle.program_commands.specs.Words.{AreGiven, IsGiven, Number, copy_numbers, member_number, member_operands}
use Rattle.program_commands.specs.Words.{optional_preset, rows_in}
use Rattle.program_commands.proofs.GetterLaws.{none_found}
use Rattle.program_commands.proofs.plans.read_member.Goals as goal

pub returns-in_err-number : goal.returns-in_err-number
returns-in_err-number c =
    let rows = rows_in c.args.matches.now in
    none_found (λ member. AreGiven rows (member_operands member))
    (λ n. IsGiven rows (Number (codes "N") 32 n))
    c.from_residual-in_err-number.result c.read_number.result
    c.from_residual-in_err-number.ensures c.in_err-number.was c.read_number.ensures
    (λ member given. (member_number member, given.1.0))

pub returns-in_err-numbers : goal.returns-in_err-numbers
returns-in_err-numbers c =
    let rows = rows_in c.args.matches.now in
    none_found (λ member. AreGiven rows (member_operands member))
    (λ preset. IsGiven rows (optional_preset (codes "as") preset))
    c.from_residual-in_err-numbers.result c.read_optional_preset.result
    c.from_residual-in_err-numbers.ensures c.in_err-numbers.was c.read_optional_preset.ensures
    (λ member given. (copy_numbers member, given.1.1.0))
