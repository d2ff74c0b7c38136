use Rattle.std.proofs.Common.{refl}
use Rattle.bank_parts.proofs.SoundLaws.{sound_storable}
use Rattle.bank_core.proofs.KeptPoints.{kept_either}
use Rattle.bank_core.proofs.bank.Bank.add_preset.Goals as goal

pub add_preset-requires-clause-storable : goal.add_preset-requires-clause-storable
add_preset-requires-clause-storable c = rw c.self.view_is (sound_storable _ c.requires.sound)

pub invariant_of-self : goal.invariant_of-self
invariant_of-self c =
    kept_either c.self.view_is c.self.invariant c.add_preset.result (rw c.self.view_is at c.add_preset.ensures.ok)
    c.add_preset.ensures.err c.requires.sound refl
