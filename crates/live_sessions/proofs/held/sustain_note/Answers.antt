use Rattle.std.proofs.Common.{set, get_or, false, ap, ◌∙◌, arith}
use Rattle.std.proofs.lemmas.Grind.{common_steps}
use Rattle.std.proofs.lemmas.List.{get_or_default}
use Rattle.std.proofs.lemmas.List.Edits.{map_over_more}
use Rattle.live_sessions.specs.declared.held.HeldNote.{HeldNote}
use Rattle.live_sessions.specs.Steps.{sustained_as}
use Rattle.live_sessions.proofs.held.sustain_note.Goals as goal

pub loop-note-init : goal.loop-note-init
loop-note-init c = grind (arith, common_steps)

pub loop-note-preserved : goal.loop-note-preserved
loop-note-preserved c =
    let none : HeldNote =
    record { key = record { bank = 0; number = 0; key = 0 }; handle = 0; is_sustained = false } in
    ap (set c.loop-note.notes c.loop-note.note-index) c.sustain.ensures
    ∙ map_over_more (sustained_as c.args.handle) c.args.notes.now c.loop-note.notes c.loop-note.note-index
    (get_or c.loop-note.notes c.loop-note.note-index none) c.loop-note-test.true c.loop-note.invariant
    (get_or_default c.loop-note.notes c.loop-note.note-index none _ (omega (arith, c.loop-note-test.true, c.loop-note.auto.notes)))

pub returns : goal.returns
returns c = let whole = c.loop-note.invariant in grind (arith, common_steps, whole)
