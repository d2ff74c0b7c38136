use Rattle.bank_core.proofs.bank.Bank.set_info.Goals as goal

pub invariant_of-self : goal.invariant_of-self
invariant_of-self c =
    rw (c.set_info.ensures.change, c.self.view_is) (c.requires, rw c.self.view_is at c.self.invariant.1)
