use Rattle.std.proofs.Common.{◌∙◌}
use Rattle.mixer.proofs.Selected.{note_voices_first, note_voices_next, note_voices_last}
use Rattle.mixer.proofs.playing.note_voices.Goals as goal

pub loop-pair-init : goal.loop-pair-init
loop-pair-init c = record {
  can_next = tt;
  is_finite = tt;
  left =
      note_voices_first c.args.bank.now c.args.note.now _ _ c.new-voices.ensures.items
      (c.into_iter-pair-iterator.ensures.into_iter_gives ∙ c.matches-pair-items.ensures);
}

pub loop-pair-preserved : goal.loop-pair-preserved
loop-pair-preserved c = record {
  can_next = tt;
  is_finite = tt;
  left =
      note_voices_next c.args.bank.now c.args.note.now c.in-Some.pair c.next.new.self c.loop-pair.pair-iterator
      c.loop-pair.voices.items c.add_voice.new.voices.items
      c.in-Some.ensures.steps c.in_ok-add_voice.ensures c.loop-pair.invariant.left;
}

pub returns : goal.returns
returns c =
    note_voices_last c.args.bank.now c.args.note.now c.loop-pair.pair-iterator c.loop-pair.voices.items _
    c.in-None.ensures.steps.0 c.loop-pair.invariant.left
