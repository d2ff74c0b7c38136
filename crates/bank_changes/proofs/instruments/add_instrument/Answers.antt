use Rattle.std.proofs.Common.{refl}
use Rattle.bank_changes.proofs.InstrumentLaws.{added_last_instrument}
use Rattle.bank_changes.proofs.instruments.add_instrument.Goals.{then-number-count, else-number-count}
use Rattle.bank_changes.proofs.instruments.add_instrument.Goals as goal

pub returns-clause-ok : goal.returns-clause-ok
returns-clause-ok c = elim c.if-number-count.branch [
  | then-number-count w ↦ rw (w.parts-is, w.renumber.ensures, c.in_ok-insert.ensures.ok) refl
  | else-number-count w ↦
      rw (w.parts-is, c.in_ok-insert.ensures.ok)
      (added_last_instrument c.args.parts.now c.args.number c.args.instrument c.requires.valid
      (rw c.len-count.ensures at w.if-number-count.false))
]
