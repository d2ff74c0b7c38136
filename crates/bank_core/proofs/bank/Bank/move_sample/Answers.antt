use Rattle.bank_changes.proofs.SampleLaws.{totals-moved}
use Rattle.bank_core.proofs.KeptPoints.{same_points, kept_still}
use Rattle.bank_core.proofs.bank.Bank.move_sample.Goals as goal

pub invariant_of-self : goal.invariant_of-self
invariant_of-self c =
    kept_still c.self.view_is c.self.invariant (rw c.self.view_is at c.move_sample.ensures) c.requires.sound
    (same_points c.args.self.now _ (totals-moved c.args.self.now c.args.from c.args.to c.requires.there c.requires.place))
