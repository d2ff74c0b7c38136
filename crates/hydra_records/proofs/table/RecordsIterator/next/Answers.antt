use Rattle.std.proofs.Common.{◌∙◌, ◌≤◌, ◌<◌, length, ap, sym, arith}
use Rattle.hydra_records.proofs.TableLaws.{records-short, records-next}
use Rattle.hydra_records.proofs.table.RecordsIterator.next.Goals as goal

pub returns-then-rest-SIZE-clause-steps : goal.returns-then-rest-SIZE-clause-steps
returns-then-rest-SIZE-clause-steps g c =
    let short : length c.self.inside.rest.now < g.R.Record.SIZE = rw c.SIZE.ensures at c.if-rest-SIZE.true in
    let none = sym c.self.view_is ∙ records-short g.R.Record.SIZE g.R.Record.of_bytes c.self.inside.rest.now short in
    (none, none)

pub returns-clause-steps : goal.returns-clause-steps
returns-clause-steps g c =
    let long : g.R.Record.SIZE ≤ length c.self.inside.rest.now = rw c.SIZE.ensures at c.if-rest-SIZE.false in
    let next = records-next g.R.Record.SIZE g.R.Record.of_bytes c.self.inside.rest.now g.met.R.Record.some_bytes long in
    rw (c.read.ensures, c.front_of.ensures, c.rest_from-self-inside.ensures, c.SIZE-2.ensures, c.SIZE-3.ensures)
    (sym c.self.view_is ∙ next)

pub returns-clause-goes : goal.returns-clause-goes
returns-clause-goes g c =
    let fewer = ap length (returns-clause-steps g c) in
    record { on = λ _. (tt, tt, omega (arith, fewer)); keeps = tt; rests = λ _. tt }
