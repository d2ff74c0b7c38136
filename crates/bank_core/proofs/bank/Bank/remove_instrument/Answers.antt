use Rattle.std.proofs.Common.{refl}
use Rattle.bank_core.proofs.KeptPoints.{kept_either}
use Rattle.bank_core.proofs.bank.Bank.remove_instrument.Goals as goal

pub invariant_of-self : goal.invariant_of-self
invariant_of-self c =
    kept_either c.self.view_is c.self.invariant c.remove_instrument.result (rw c.self.view_is at c.remove_instrument.ensures.change)
    c.remove_instrument.ensures.err c.requires.sound refl
