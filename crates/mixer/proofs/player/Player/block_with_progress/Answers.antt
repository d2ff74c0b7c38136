use Rattle.std.proofs.Common.{◌≡◌, ◌+◌, ◌-◌, ◌/◌, ◌≤◌, List, drop, length, sym, ap, subst, ◌∙◌, arith}
use Rattle.mixer.specs.declared.playing.PlayingVoice.{PlayingVoice}
use Rattle.mixer.specs.Events.{after_block, next_side}
use Rattle.mixer.specs.KeptVoices.{AllSounding}
use Rattle.mixer.proofs.Parts.{nothing_given, nothing_after, block_written}
use Rattle.mixer.proofs.Rewinding.{after_more, written_on}
use Rattle.mixer.proofs.AheadLaws.{playing_sounds}
use Rattle.mixer.proofs.player.Player.block_with_progress.Goals as goal

pub loop-at-init : goal.loop-at-init
loop-at-init g c =
    let all : AllSounding c.args.self.now =
    subst (λ (ps : List PlayingVoice). AllSounding ps) c.self.view_is (playing_sounds _ _) in
    record {
      within =
          omega arith;
      even =
          (λ _. 0);
      value = λ k h. absurd (omega (arith, h));
      live = sym (nothing_given c.args.self.now all);
    }

pub loop-at-preserved : goal.loop-at-preserved
loop-at-preserved g c =
    let at = c.loop-at.at in
    let n = c.write_part-at.result in
    let out = c.loop-at.out in
    let new = c.write_part-at.new.out in
    let ps = c.args.self.now in
    let even = c.loop-at.invariant.even in
    let evenly = c.write_part-at.ensures.even in
    let most : n ≤ length new = omega (arith, c.write_part-at.ensures.most, c.write_part-at.auto.out) in
    record {
      within = omega arith;
      even = omega (arith, even, evenly);
      value =
          written_on out new (drop (length out - at) (drop at out)) ps at n (omega arith) most even
          c.loop-at.invariant.value
          (λ k h.
          c.write_part-at.ensures.heard k h ∙ ap (λ (qs : List PlayingVoice). next_side qs k) c.loop-at.invariant.live);
      live = c.write_part-at.ensures.live ∙ ap (λ (qs : List PlayingVoice). after_block qs (n / 2)) c.loop-at.invariant.live
          ∙ after_more (at / 2) (n / 2) ps
          ∙ ap (after_block ps) (let e : at / 2 + n / 2 ≡ (at + n) / 2 = omega (arith, even) in e);
    }

pub returns-clause-heard : goal.returns-clause-heard
returns-clause-heard g c =
    block_written c.loop-at.out c.args.self.now c.loop-at.at (length c.args.out.now) c.loop-at.auto.out (omega arith)
    c.requires c.loop-at.invariant.value

pub returns-clause-none : goal.returns-clause-none
returns-clause-none g c = λ h.
    let all : AllSounding c.args.self.now =
    subst (λ (ps : List PlayingVoice). AllSounding ps) c.self.view_is (playing_sounds _ _) in
    let none : c.loop-at.at ≡ 0 = omega (arith, h, c.loop-at.invariant.within) in
    c.loop-at.invariant.live ∙ nothing_after c.loop-at.at c.args.self.now none all
