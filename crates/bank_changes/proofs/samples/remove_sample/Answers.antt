use Rattle.bank_changes.proofs.SampleLaws.{links_fit-removed, removed_last}
use Rattle.bank_changes.proofs.samples.remove_sample.Goals as goal

pub renumber-requires : goal.renumber-requires
renumber-requires c =
    rw c.remove-sample.ensures.list (links_fit-removed c.args.parts.now c.args.number c.requires.valid)

pub returns-else-number-len-clause-change : goal.returns-else-number-len-clause-change
returns-else-number-len-clause-change c =
    rw c.remove-sample.ensures.list
    (removed_last c.args.parts.now c.args.number c.requires.valid c.requires.there
    (rw c.remove-sample.ensures.list at (rw c.len.ensures at c.if-number-len.false)))
