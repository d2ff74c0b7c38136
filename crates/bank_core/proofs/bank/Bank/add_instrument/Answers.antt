use Rattle.std.proofs.Common.{refl}
use Rattle.bank_parts.proofs.SoundLaws.{sound_storable}
use Rattle.bank_core.proofs.KeptPoints.{kept_either}
use Rattle.bank_core.proofs.bank.Bank.add_instrument.Goals as goal

pub add_instrument-requires-clause-storable : goal.add_instrument-requires-clause-storable
add_instrument-requires-clause-storable c = rw c.self.view_is (sound_storable _ c.requires.sound)

pub invariant_of-self : goal.invariant_of-self
invariant_of-self c =
    kept_either c.self.view_is c.self.invariant c.add_instrument.result (rw c.self.view_is at c.add_instrument.ensures.ok)
    c.add_instrument.ensures.err c.requires.sound refl
