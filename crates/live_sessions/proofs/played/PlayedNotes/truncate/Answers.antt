use Rattle.std.proofs.Common.{sym, subst}
use Rattle.live_sessions.specs.PlayedNotes.{AreListed}
use Rattle.live_sessions.proofs.ListedLaws.{first_listed}
use Rattle.live_sessions.proofs.played.PlayedNotes.truncate.Goals as goal

pub invariant_of-self : goal.invariant_of-self
invariant_of-self c =
    subst AreListed (sym c.truncate.ensures.items) (first_listed c.args.count c.self.inside.notes.items c.self.invariant)
