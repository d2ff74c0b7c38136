use Rattle.std.proofs.Common.{refl, inr}
use Rattle.sfbank.proofs.program.explain.explain.Goals as goal

pub returns-in-Number : goal.returns-in-Number
returns-in-Number g c = rw c.in-Number.is c.explain_number.ensures

pub returns-in-Name : goal.returns-in-Name
returns-in-Name g c = rw c.in-Name.is c.explain_named.ensures

pub returns-in-Generators : goal.returns-in-Generators
returns-in-Generators g c = rw c.in-Generators.is (inr (_, refl, c.print.ensures))
