use Rattle.sfbank.proofs.program.checks.reject_optional.Goals as goal

pub returns-in-Some : goal.returns-in-Some
returns-in-Some g c = rw c.in-Some.is c.reject_output.ensures
