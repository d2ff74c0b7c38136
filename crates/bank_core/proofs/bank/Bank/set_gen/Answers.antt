use Rattle.bank_parts.proofs.SoundLaws.{sound_storable}
use Rattle.bank_core.proofs.KeptPoints.{owner_points, kept_either}
use Rattle.bank_core.proofs.bank.Bank.set_gen.Goals as goal

pub set_gen-requires-clause-storable : goal.set_gen-requires-clause-storable
set_gen-requires-clause-storable c none = rw c.self.view_is (sound_storable _ c.requires.sound)

pub invariant_of-self : goal.invariant_of-self
invariant_of-self c =
    kept_either c.self.view_is c.self.invariant c.set_gen.result (rw c.self.view_is at c.set_gen.ensures.ok)
    c.set_gen.ensures.err c.requires.sound (owner_points c.args.self.now c.args.owner _)
