use Rattle.std.proofs.Common.{◌≡◌, ◌<◌, length, sym, subst, arith}
use Rattle.script_notes.specs.declared.limits.TheConstants.{MOST_NOTES}
use Rattle.live_sessions.specs.PlayedNotes.{AreListed}
use Rattle.live_sessions.proofs.ListedLaws.{one_added}
use Rattle.live_sessions.proofs.played.PlayedNotes.add.Goals.{in-Ok, in-Err}
use Rattle.live_sessions.proofs.played.PlayedNotes.add.Goals as goal

pub invariant_of-self : goal.invariant_of-self
invariant_of-self c =
    let ps = c.self.inside.notes.items in
    let count = c.len-count.ensures in
    let same = c.if-handle-count.false in
    let less = c.if-count-ge-MOST_NOTES.false in
    let at : c.args.handle ≡ length ps = grind (arith, count, same) in
    let few : length ps < MOST_NOTES = grind (arith, count, less) in
    elim c.match-push.branch [
      | in-Ok w ↦ subst AreListed (sym w.in-Ok.ensures.items) (one_added ps _ c.self.invariant at few c.show_limits.ensures)
      | in-Err w ↦ subst AreListed (sym w.in-Err.ensures.items) c.self.invariant
    ]
