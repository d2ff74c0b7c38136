use Rattle.std.proofs.Common.{◌≡◌, ◌++◌, map, take, drop, length, sym, ap, subst, ◌∙◌, arith}
use Rattle.std.proofs.lemmas.Grind.{common_steps}
use Rattle.live_sessions.specs.PlayedNotes.{AreListed, ended_by}
use Rattle.live_sessions.proofs.ListedLaws.{ended_listed}
use Rattle.live_sessions.proofs.played.PlayedNotes.end.Goals as goal

pub invariant_of-self : goal.invariant_of-self
invariant_of-self c =
    let ps = c.self.inside.notes.items in
    let all : c.end_notes.new.notes ≡ map (ended_by c.args.release c.args.frame) ps =
    c.end_notes.ensures ∙ ap (map (ended_by c.args.release c.args.frame)) c.as_mut_slice.ensures.value in
    let e : take c.self.inside.notes.len (c.end_notes.new.notes ++ drop (length c.end_notes.new.notes) ps)
    ≡ c.end_notes.new.notes =
    grind (arith, common_steps) in
    subst AreListed (sym (e ∙ all)) (ended_listed c.args.release c.args.frame ps c.self.invariant)
