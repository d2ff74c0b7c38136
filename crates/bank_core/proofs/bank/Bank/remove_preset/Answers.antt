use Rattle.std.proofs.Common.{refl}
use Rattle.bank_core.proofs.KeptPoints.{kept_either}
use Rattle.bank_core.proofs.bank.Bank.remove_preset.Goals as goal

pub invariant_of-self : goal.invariant_of-self
invariant_of-self c =
    kept_either c.self.view_is c.self.invariant c.remove_preset.result (rw c.self.view_is at c.remove_preset.ensures.change)
    c.remove_preset.ensures.err c.requires.sound refl
