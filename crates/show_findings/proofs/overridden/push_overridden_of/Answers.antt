use Rattle.show_findings.proofs.overridden.push_overridden_of.Goals as goal

pub returns : goal.returns
returns c = rw c.entries_of.ensures at c.push_overridden_in.ensures
