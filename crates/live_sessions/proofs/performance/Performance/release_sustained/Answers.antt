use Rattle.std.proofs.Common.{◌≡◌, [], drop, false, refl, sym, ◌∙◌, arith}
use Rattle.std.proofs.lemmas.Grind.{common_steps}
use Rattle.live_sessions.specs.declared.held.HeldNote.{HeldNote}
use Rattle.live_sessions.specs.Performances.{is_sustained_by}
use Rattle.live_sessions.proofs.InTurn.{in_turn_next, in_turn_none}
use Rattle.live_sessions.proofs.performance.Performance.release_sustained.Goals as goal

pub loop-note-init : goal.loop-note-init
loop-note-init c = refl

pub loop-note-preserved : goal.loop-note-preserved
loop-note-preserved c =
    let none : HeldNote =
    record { key = record { bank = 0; number = 0; key = 0 }; handle = 0; is_sustained = false } in
    in_turn_next (is_sustained_by c.args.pedal) c.loop-note.self c.release_if_sustained.new.self c.args.self.now
    c.args.held.now c.loop-note.note-index none c.loop-note-test.true c.release_if_sustained.ensures c.loop-note.invariant

pub returns : goal.returns
returns c =
    let none : drop c.loop-note.note-index c.args.held.now ≡ [] = grind (arith, common_steps) in
    sym (in_turn_none (is_sustained_by c.args.pedal) c.loop-note.self (drop c.loop-note.note-index c.args.held.now) none)
    ∙ c.loop-note.invariant
