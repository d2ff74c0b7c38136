use Rattle.std.proofs.Common.{length, refl, ◌∙◌}
use Rattle.mixer.specs.StartFrames.{note_voices}
use Rattle.live_sessions.proofs.Counted.{count_first, count_next, count_last}
use Rattle.live_sessions.proofs.live.voice_count.Goals as goal

pub loop-pair-init : goal.loop-pair-init
loop-pair-init c =
    let f =
    count_first c.args.bank.now c.args.note.now _ 0 c.soundness.ensures.valid refl
    (c.into_iter-pair-iterator.ensures.into_iter_gives ∙ c.matches-pair-items.ensures) in
    record { can_next = tt; is_finite = tt; left = f.0; counted = f.1 }

pub loop-pair-preserved : goal.loop-pair-preserved
loop-pair-preserved c =
    let f =
    count_next (length (note_voices c.args.bank.now c.args.note.now)) _ c.next.new.self c.loop-pair._pair-iterator
    c.loop-pair.voices c.one_more-voices.result
    c.in-Some.ensures.steps c.one_more-voices.ensures c.loop-pair.invariant.left c.loop-pair.invariant.counted in
    record { can_next = tt; is_finite = tt; left = f.0; counted = f.1 }

pub returns : goal.returns
returns c =
    count_last (length (note_voices c.args.bank.now c.args.note.now)) c.loop-pair._pair-iterator c.loop-pair.voices
    c.in-None.ensures.steps.0 c.loop-pair.invariant.counted
