use Rattle.bank_core.proofs.KeptPoints.{owner_points, kept_still}
use Rattle.bank_core.proofs.bank.Bank.set_target.Goals as goal

pub invariant_of-self : goal.invariant_of-self
invariant_of-self c =
    kept_still c.self.view_is c.self.invariant (rw c.self.view_is at c.set_target.ensures.change) c.requires.sound
    (owner_points c.args.self.now c.args.owner _)
