use Rattle.bank_changes.proofs.SampleLaws.{totals-renamed}
use Rattle.bank_core.proofs.KeptPoints.{same_points, kept_still}
use Rattle.bank_core.proofs.bank.Bank.rename_sample.Goals as goal

pub invariant_of-self : goal.invariant_of-self
invariant_of-self c =
    kept_still c.self.view_is c.self.invariant (rw c.self.view_is at c.rename_sample.ensures.change) c.requires.sound
    (same_points c.args.self.now _ (totals-renamed c.args.self.now c.args.number c.args.name))
