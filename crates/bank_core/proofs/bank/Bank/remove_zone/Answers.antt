use Rattle.bank_core.proofs.KeptPoints.{owner_points, kept_either}
use Rattle.bank_core.proofs.bank.Bank.remove_zone.Goals as goal

pub invariant_of-self : goal.invariant_of-self
invariant_of-self c =
    kept_either c.self.view_is c.self.invariant c.remove_zone.result (rw c.self.view_is at c.remove_zone.ensures.change)
    c.remove_zone.ensures.err c.requires.sound (owner_points c.args.self.now c.args.owner _)
