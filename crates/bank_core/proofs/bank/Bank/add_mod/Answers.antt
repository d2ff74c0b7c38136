use Rattle.bank_parts.proofs.SoundLaws.{sound_storable}
use Rattle.bank_core.proofs.KeptPoints.{owner_points, kept_either}
use Rattle.bank_core.proofs.bank.Bank.add_mod.Goals as goal

pub add_mod-requires-clause-storable : goal.add_mod-requires-clause-storable
add_mod-requires-clause-storable c = rw c.self.view_is (sound_storable _ c.requires.sound)

pub invariant_of-self : goal.invariant_of-self
invariant_of-self c =
    kept_either c.self.view_is c.self.invariant c.add_mod.result (rw c.self.view_is at c.add_mod.ensures.ok)
    c.add_mod.ensures.err c.requires.sound (owner_points c.args.self.now c.args.owner _)
