use Rattle.std.proofs.Common.{set, sym, ap, ◌∙◌, arith}
use Rattle.std.proofs.lemmas.Grind.{common_steps}
use Rattle.std.proofs.lemmas.List.Edits.{map_over_more}
use Rattle.live_sessions.specs.PlayedNotes.{ended_by}
use Rattle.live_sessions.proofs.played.end_each.Goals as goal

pub loop-played-init : goal.loop-played-init
loop-played-init c = grind (arith, common_steps)

pub loop-played-preserved : goal.loop-played-preserved
loop-played-preserved c =
    ap (set c.loop-played.notes c.loop-played.played-index)
    (c.end.ensures ∙ ap (ended_by c.args.release c.args.frame) (sym c.played-item.is))
    ∙ map_over_more (ended_by c.args.release c.args.frame) c.args.notes.now c.loop-played.notes c.loop-played.played-index
    c.played-item.result c.loop-played-test.true c.loop-played.invariant c.played-item.is

pub returns : goal.returns
returns c = let whole = c.loop-played.invariant in grind (arith, common_steps, whole)
