use Rattle.std.proofs.Common.{refl}
use Rattle.bank_changes.proofs.InstrumentLaws.{removed_last_instrument}
use Rattle.bank_changes.proofs.instruments.remove_instrument.Goals.{then-number-len, else-number-len}
use Rattle.bank_changes.proofs.instruments.remove_instrument.Goals as goal

pub returns-clause-change : goal.returns-clause-change
returns-clause-change c = elim c.if-number-len.branch [
  | then-number-len w ↦ rw (w.parts-is, w.renumber.ensures, c.in_ok-instrument.ensures.change) refl
  | else-number-len w ↦
      rw (w.parts-is, c.in_ok-instrument.ensures.change)
      (removed_last_instrument c.args.parts.now c.args.number c.requires.valid c.requires.there
      (rw c.in_ok-instrument.ensures.change at (rw c.len.ensures at w.if-number-len.false)))
]
