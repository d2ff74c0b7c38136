use Rattle.std.proofs.Common.{◌≡◌, ◌≤◌, ◌-◌, ◌^◌, length, min}
use Rattle.mixer.specs.StartFrames.{note_voices}
use Rattle.live_sessions.proofs.live.voice_count.Given as goal

-- the pairs so far were counted
abbrev pub invariant-loop-pair : goal.invariant-loop-pair
invariant-loop-pair l = record {
  can_next : (goal.iterator-loop-pair).can_next l._pair-iterator;
  is_finite : (goal.iterator-loop-pair).is_finite l._pair-iterator;
  left : length l._pair-iterator ≤ length (note_voices l.bank l.note);
  counted : l.voices ≡ min (length (note_voices l.bank l.note) - length l._pair-iterator) (2 ^ 64 - 1);
}
