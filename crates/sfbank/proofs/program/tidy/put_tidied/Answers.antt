use Rattle.sfbank.specs.Purposes.{RemovingDuplicates, Tidying}
use Rattle.sfbank.proofs.program.tidy.put_tidied.Goals as goal

pub returns-then-operands : goal.returns-then-operands
returns-then-operands g c =
    rw c.if-operands.true (c.put_planned.ensures RemovingDuplicates (λ b edits h. h))

pub returns-else-operands : goal.returns-else-operands
returns-else-operands g c =
    rw c.if-operands.false (c.put_planned-else-operands.ensures Tidying (λ b edits h. h))
