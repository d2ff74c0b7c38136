use Rattle.std.proofs.Common.{refl, sym, w8}
use Rattle.std.proofs.lemmas.Int.{to_z-of_z}
use Rattle.bank_changes.specs.Points.{with_tune}
use Rattle.bank_changes.proofs.PointLaws.{totals_stay}
use Rattle.bank_core.proofs.KeptPoints.{same_points, kept_still}
use Rattle.bank_core.proofs.bank.Bank.set_tune.Goals as goal

pub returns-clause-change : goal.returns-clause-change
returns-clause-change c =
    rw (to_z-of_z w8 c.args.correction c.ranges.correction, c.self.view_is) at c.set_tune.ensures.change

pub invariant_of-self : goal.invariant_of-self
invariant_of-self c =
    kept_still c.self.view_is c.self.invariant (returns-clause-change c) c.requires.sound
    (same_points c.args.self.now _
    (sym
    (totals_stay c.args.self.now c.args.number (with_tune c.args.rate c.args.key c.args.correction) c.requires.there
    (λ s. refl))))
