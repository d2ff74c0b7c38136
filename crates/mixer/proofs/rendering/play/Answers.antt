use Rattle.std.proofs.Common.{◌≡◌, ◌≤◌, ◌+◌, ◌-◌, ◌*◌, ◌/◌, ◌%◌, ◌++◌, ◌∙◌, ℕ, List, ap, arith, length, take, drop}
use Rattle.script_notes.specs.Notes.{Numbers}
use Rattle.mixer.specs.declared.playing.PlayingVoice.{PlayingVoice}
use Rattle.mixer.specs.StartFrames as heard
use Rattle.mixer.specs.Events.{after_start, after_block, block}
use Rattle.mixer.proofs.Schedule.{play_step, play_last, played_next, played_end, scheduled, part_len, put_len, last_put}
use Rattle.mixer.proofs.rendering.play.Goals as goal

pub loop-note-preserved : goal.loop-note-preserved
loop-note-preserved g c =
    let ns = c.args.notes.now in
    let i = c.loop-note.note-index in
    let now = c.loop-note.now in
    let out = c.loop-note.out in
    let n : Numbers = c.note-item.result in
    let here = played_next _ _ ns i now n out _ c.loop-note-test.true c.note-item.is c.loop-note.invariant.played in
    let next = 2 * c.start.result in
    let same : c.start.result ≡ n.start = c.start.ensures.value in
    let later : now / 2 ≤ n.start = here.rising.0 in
    let in_out : n.start ≤ length out / 2 = here.starts_in.0 in
    let fits : now + (next - now) ≤ length out =
    omega (arith, same, later, in_out, c.loop-note.invariant.played.even) in
    let sub : length (take (next - now) (drop now out)) ≡ next - now = part_len now (next - now) out fits in
    let long : length c.block_with_progress.new.out ≡ next - now = c.block_with_progress.auto.out ∙ sub in
    let kept : length (take now out ++ (c.block_with_progress.new.out ++ drop (next - now) (drop now out)))
    ≡ length out =
    put_len now (next - now) out c.block_with_progress.new.out fits long in
    record {
      played =
          play_step c.args.bank.now c.loop-note.player c.start_with_progress.new.self n (drop (i + 1) ns) now next out
          c.block_with_progress.new.out _ _ here (ap (λ (k : ℕ). 2 * k) same)
          (c.block_with_progress.ensures.heard ∙ ap (λ (m : ℕ). block c.loop-note.player (m / 2)) sub) long
          (c.in_ok-start_with_progress.ensures.done
          ∙ ap (λ (ps : List PlayingVoice). after_start ps (heard.note_voices c.args.bank.now n))
          (c.block_with_progress.ensures.live ∙ ap (λ (m : ℕ). after_block c.loop-note.player (m / 2)) sub))
          (λ _. take now out ++ (c.block_with_progress.new.out ++ drop (next - now) (drop now out))) kept;
      long = kept ∙ c.loop-note.invariant.long;
    }

pub returns : goal.returns
returns g c =
    let ns = c.args.notes.now in
    let out = c.loop-note.out in
    let now = c.loop-note.now in
    let long = c.loop-note.invariant.long in
    let end = played_end _ _ ns c.loop-note.note-index now out _ (omega arith) c.loop-note.invariant.played in
    let le : now ≤ length out = end.within in
    let sub : length (take (length out - now) (drop now out)) ≡ length out - now =
    part_len now (length out - now) out (omega (arith, le)) in
    play_last c.args.bank.now c.loop-note.player now out c.block_with_progress-2.new.out _ _ end
    (ap (λ (m : ℕ). m % 2) long ∙ c.requires.even)
    (c.block_with_progress-2.ensures.heard ∙ ap (λ (m : ℕ). block c.loop-note.player (m / 2)) sub)
    (last_put now out c.block_with_progress-2.new.out le)
    ∙ scheduled c.args.bank.now ns (length c.args.out.now / 2) c.requires.rising c.requires.within
