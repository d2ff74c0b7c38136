use Rattle.std.proofs.Common.{◌≡◌, ◌++◌, map}
use Rattle.mixer.specs.StartFrames as heard
use Rattle.mixer.proofs.Selected.{voices_of}
use Rattle.mixer.proofs.playing.note_voices.Given as goal

-- with the voices of the remaining pairs they are all
abbrev pub invariant-loop-pair : goal.invariant-loop-pair
invariant-loop-pair l = record {
  can_next : (goal.iterator-loop-pair).can_next l.pair-iterator;
  is_finite : (goal.iterator-loop-pair).is_finite l.pair-iterator;
  left : l.voices.items ++ map (heard.playing l.note) (voices_of l.bank l.note l.pair-iterator)
      ≡ heard.note_voices l.bank l.note;
}
