use Rattle.std.proofs.Common.{refl, sym}
use Rattle.bank_changes.specs.Points.{with_loop}
use Rattle.bank_changes.proofs.PointLaws.{totals_stay}
use Rattle.bank_core.proofs.KeptPoints.{same_points, kept_still}
use Rattle.bank_core.proofs.bank.Bank.set_loop.Goals as goal

pub invariant_of-self : goal.invariant_of-self
invariant_of-self c =
    kept_still c.self.view_is c.self.invariant (rw c.self.view_is at c.set_loop.ensures.change) c.requires.sound
    (same_points c.args.self.now _
    (sym (totals_stay c.args.self.now c.args.number (with_loop c.args.looped) c.requires.there (λ s. refl))))
