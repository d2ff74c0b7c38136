use Rattle.bank_edits.proofs.applying.apply.Goals.{in-Ok, in-Err}
use Rattle.bank_edits.proofs.applying.apply.Goals as goal

-- a group always allocates
pub returns-in_default-clause-no_memory : goal.returns-in_default-clause-no_memory
returns-in_default-clause-no_memory c = λ needs none. elim c.match-into_steps.branch [
  | in-Ok w ↦
      let one = rw w.in-Ok.is at c.into_steps.ensures in
      rw w.outcome-is (w.apply_step-outcome.ensures.no_memory (rw one at needs) (rw one at none))
  | in-Err w ↦ let group = rw w.in-Err.is at c.into_steps.ensures in absurd (rw group at needs)
]
