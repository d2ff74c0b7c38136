use Rattle.std.proofs.Common.{rules, ◌≡◌, ℕ, ◌+◌, ◌-◌, ◌<◌, ◌≤◌, ◌++◌, pos, arith, get_or, length, take, drop, sym}
use Rattle.std.proofs.Common.{subst, ap, ◌∙◌}
use Rattle.std.proofs.lemmas.Grind.{common_steps}
use Rattle.std.proofs.lemmas.List.{places}
use Rattle.zone_select.specs.Select.{Voice}
use Rattle.voices.specs.VoiceState.{IsVoiceState}
use Rattle.voices.specs.Sound.{frame_or_silence_at}
use Rattle.sound_envelopes.proofs.WriteLaws.{below_piece, below_prefix}
use Rattle.voices.proofs.RunLaws.{frame_if_sounding, silence_if_over}
use Rattle.voices.proofs.OverLaws.{state_stays}
use Rattle.voices.proofs.runs.fill_run.Goals as goal

pub loop-at-init : goal.loop-at-init
loop-at-init c = record {
  within = omega arith;
  here =
      subst (λ t. IsVoiceState c.args.points.now c.args.v.now t c.args.state.now)
      (let e : c.args.age ≡ c.args.age + 0 = omega arith in e) c.requires.here;
  done = λ k h. absurd (omega (arith, h));
}

pub returns-then-state-clause-audible : goal.returns-then-state-clause-audible
returns-then-state-clause-audible c i h =
    let v : Voice = record { points = c.args.points.now; parameters = c.args.v.now } in
    let at = c.loop-at.at in
    let xs = c.loop-at.run in
    let new = c.fill.new.self in
    let m : ℕ = length xs - at in
    let inside : at < length xs = c.loop-at-test.true in
    let whole : at + m ≡ length xs = omega (arith, inside) in
    let len : length new ≡ m =
    c.fill.ensures.len ∙ (let e : length (take m (drop at xs)) ≡ m = grind (arith, common_steps, inside) in e) in
    let long : length (take at xs ++ (new ++ drop m (drop at xs))) ≡ length xs =
    grind (arith, common_steps, inside, len) in
    below_prefix (pos 0) (λ k y. y ≡ frame_or_silence_at v (c.args.age + k)) xs new at m m (omega (arith, whole)) len
    (omega arith) c.loop-at.invariant.done
    (λ k l. (let zero : get_or new k (pos 0) ≡ pos 0 = search (rules, places) in zero)
    ∙ sym (silence_if_over v (c.args.age + at) (c.args.age + (at + k))
    (sym c.loop-at.invariant.here.over ∙ c.if-state.true) (omega arith)))
    i (omega (arith, h, long, whole))

pub returns-then-state-clause-there : goal.returns-then-state-clause-there
returns-then-state-clause-there c =
    state_stays c.args.points.now c.args.v.now (c.args.age + c.loop-at.at) (c.args.age + length c.args.run.now)
    c.loop-at.state
    (omega (arith, c.loop-at.invariant.within)) c.if-state.true c.loop-at.invariant.here

pub returns-clause-there : goal.returns-clause-there
returns-clause-there c =
    let e : c.loop-at.at ≡ length c.args.run.now = omega (arith, c.loop-at.invariant.within, c.loop-at.auto.run) in
    subst (λ n. IsVoiceState c.args.points.now c.args.v.now (c.args.age + n) c.loop-at.state) e c.loop-at.invariant.here

pub loop-at-preserved : goal.loop-at-preserved
loop-at-preserved c =
    let v : Voice = record { points = c.args.points.now; parameters = c.args.v.now } in
    let at = c.loop-at.at in
    let n = c.stretch-n.result in
    let xs = c.loop-at.run in
    let new = c.fill_by_stages.new.run in
    let end : at + n ≤ length xs = omega (arith, c.stretch-n.ensures.some.1) in
    let long : length (take (at + n - at) (drop at xs)) ≡ n = grind (arith, common_steps, end) in
    let len : length new ≡ n = c.fill_by_stages.auto.run ∙ long in
    record {
      within = omega (arith, end, c.loop-at.auto.run);
      here = subst (λ t. IsVoiceState c.args.points.now c.args.v.now t c.fill_by_stages.new.state)
          (ap (λ m. c.args.age + at + m) long
          ∙ (let e : c.args.age + at + n ≡ c.args.age + (at + n) = omega arith in e))
          c.fill_by_stages.ensures.state;
      done = below_piece (pos 0) (λ k y. y ≡ frame_or_silence_at v (c.args.age + k)) xs new at n end len c.loop-at.invariant.done
          (λ k h. c.fill_by_stages.ensures.sounds k (omega (arith, h, len))
          ∙ sym (frame_if_sounding v (c.args.age + at + k) (c.stretch-n.ensures.is_stretch.sounds k h))
          ∙ ap (frame_or_silence_at v) (let e : c.args.age + at + k ≡ c.args.age + (at + k) = omega arith in e));
    }
