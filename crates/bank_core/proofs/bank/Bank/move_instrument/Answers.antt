use Rattle.std.proofs.Common.{refl}
use Rattle.bank_core.proofs.KeptPoints.{kept_still}
use Rattle.bank_core.proofs.bank.Bank.move_instrument.Goals as goal

pub invariant_of-self : goal.invariant_of-self
invariant_of-self c =
    kept_still c.self.view_is c.self.invariant (rw c.self.view_is at c.move_instrument.ensures) c.requires.sound
    refl
