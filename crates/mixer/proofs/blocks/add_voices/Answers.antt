use Rattle.std.proofs.Common.{◌≡◌, ◌+◌, ◌/◌, ◌<◌, pos, ◌+ℤ◌, get_or, length, sym, ap, ◌∙◌, set, arith}
use Rattle.std.proofs.lemmas.List.Edits.{map_over_more}
use Rattle.mixer.specs.declared.playing.PlayingVoice.{PlayingVoice}
use Rattle.mixer.specs.Events.{aged}
use Rattle.mixer.proofs.Silent.{all_wider}
use Rattle.mixer.proofs.Sums.{add_z-zero}
use Rattle.mixer.proofs.Aging.{still, aged_is, total_more, total_none, added}
use Rattle.mixer.proofs.blocks.add_voices.Goals as goal

pub loop-p-init : goal.loop-p-init
loop-p-init c = record {
  value =
      λ k h.
      sym (add_z-zero _)
      ∙ ap (λ z. get_or c.args.sides.now k (pos 0) +ℤ get_or c.args.middle.now (k / 2) (pos 0) +ℤ z)
      (sym (total_none k));
  room = λ j h. all_wider j (j + 0) c.args.sides.now (omega arith) h;
  middle = λ j h. all_wider j (j + 0) c.args.middle.now (omega arith) h;
  live = (λ _. c.args.voices.now);
}

pub add_frames_apart-requires-clause-young : goal.add_frames_apart-requires-clause-young
add_frames_apart-requires-clause-young c =
    let i = c.loop-p.p-index in
    let xs = c.args.voices.now in
    let lt : i < length xs = omega arith in
    let e =
    still (aged (length c.args.sides.now / 2)) xs c.loop-p.voices i c.p-item.result lt c.loop-p.invariant.live in
    let young = c.requires.young i c.p-item.result lt in
    let age : (get_or c.loop-p.voices i c.p-item.result).voice.age ≡ (get_or xs i c.p-item.result).voice.age =
    ap (λ (p : PlayingVoice). p.voice.age) e in
    omega (arith, young, age, c.requires.short, c.requires.sides, c.loop-p.auto.sides)

pub add_frames_apart-requires-clause-room : goal.add_frames_apart-requires-clause-room
add_frames_apart-requires-clause-room c =
    all_wider (32767 + c.loop-p.p-index) 65534 c.loop-p.sides (omega (arith, c.requires.few))
    (c.loop-p.invariant.room 32767 c.requires.room)

pub add_frames_apart-requires-clause-middle : goal.add_frames_apart-requires-clause-middle
add_frames_apart-requires-clause-middle c =
    all_wider (32767 + c.loop-p.p-index) 65534 c.loop-p.middle (omega (arith, c.requires.few))
    (c.loop-p.invariant.middle 32767 c.requires.middle)

pub loop-p-preserved : goal.loop-p-preserved
loop-p-preserved c =
    let i = c.loop-p.p-index in
    let xs = c.args.voices.now in
    let ys = c.loop-p.voices in
    let n = length c.args.sides.now in
    let lt : i < length xs = omega arith in
    let p = get_or ys i c.p-item.result in
    let e = still (aged (n / 2)) xs ys i c.p-item.result lt c.loop-p.invariant.live in
    record {
      value =
          λ k h.
          added _ _ _ _ _ (c.add_frames_apart.ensures.value k h)
          (c.loop-p.invariant.value k (omega (arith, h, c.add_frames_apart.auto.sums)))
          ∙ ap (λ z. get_or c.args.sides.now k (pos 0) +ℤ get_or c.args.middle.now (k / 2) (pos 0) +ℤ z)
          (sym (total_more xs i k c.p-item.result p lt e));
      room =
          λ j h.
          all_wider (j + i + 1) (j + (i + 1)) _ (omega arith)
          (c.add_frames_apart.ensures.room (j + i) (c.loop-p.invariant.room j h));
      middle =
          λ j h.
          all_wider (j + i + 1) (j + (i + 1)) _ (omega arith)
          (c.add_frames_apart.ensures.middle (j + i) (c.loop-p.invariant.middle j h));
      live =
          ap (λ (q : PlayingVoice). set ys i q)
          (aged_is n (length c.loop-p.sides) p c.add_frames_apart.new.self c.add_frames_apart.ensures.live
          c.loop-p.auto.sides)
          ∙ ap (λ (q : PlayingVoice). set ys i (aged (n / 2) q)) (sym c.p-item.is)
          ∙ map_over_more (aged (n / 2)) xs ys i c.p-item.result lt c.loop-p.invariant.live c.p-item.is;
    }
