use Rattle.std.proofs.Common.{◌≡◌, ◌+◌, ◌-◌, ◌*◌, ◌/◌, ◌%◌, ◌≤◌, ◌<◌, pos, arith, get_or, length, nat_eq, take, drop}
use Rattle.std.proofs.Common.{refl, subst, ◌∙◌}
use Rattle.std.proofs.lemmas.Grind.{common_steps}
use Rattle.zone_select.specs.Select.{Voice}
use Rattle.voices.specs.VoiceState.{IsVoiceState}
use Rattle.voices.specs.Sound.{snd}
use Rattle.voices.specs.Runs.{IsAdded}
use Rattle.sound_envelopes.proofs.WriteLaws.{below_piece, after_piece, in_piece}
use Rattle.voices.proofs.RunLaws.{frame_added, later_added}
use Rattle.voices.proofs.adding.add_run.Goals as goal

pub loop-at-init : goal.loop-at-init
loop-at-init c = record {
  within = omega arith;
  even = (λ _. 0);
  here =
      subst (λ t. IsVoiceState c.args.points.now c.args.v.now t c.args.state.now)
      (let e : c.args.age ≡ c.args.age + 0 / 2 = omega arith in e) c.requires.state;
  done = λ i h. absurd (omega (arith, h));
  rest = λ i h. refl;
  room = refl;
}

pub returns-clause-state : goal.returns-clause-state
returns-clause-state c =
    let e : c.loop-at.at ≡ length c.args.sums.now = omega (arith, c.loop-at.invariant.within, c.loop-at.auto.sums) in
    subst (λ n. IsVoiceState c.args.points.now c.args.v.now (c.args.age + n / 2) c.loop-at.state) e
    c.loop-at.invariant.here

pub loop-at-preserved : goal.loop-at-preserved
loop-at-preserved c =
    let v : Voice = record { points = c.args.points.now; parameters = c.args.v.now } in
    let at = c.loop-at.at in
    let n = c.min-n.result in
    let t = c.args.age + at / 2 in
    let xs = c.loop-at.sums in
    let ys = c.args.sums.now in
    let even = c.loop-at.invariant.even in
    let most : n ≤ (length xs - at) / 2 = omega (arith, c.min-n.ensures) in
    let end : at + 2 * n ≤ length xs = omega (arith, most) in
    let long : length (take (at + 2 * n - at) (drop at xs)) ≡ 2 * n = grind (arith, common_steps, end) in
    let len : length c.add_sides.new.sums ≡ 2 * n = c.add_sides.auto.sums ∙ long in
    let fits : n ≤ length c.loop-at.run = omega (arith, c.min-n.ensures, c.loop-at.invariant.room) in
    let part : length (take n c.loop-at.run) ≡ n = grind (arith, common_steps, fits) in
    let made : length c.fill_run.new.run ≡ n = c.fill_run.auto.run ∙ part in
    let later : t + length (take n c.loop-at.run) ≡ c.args.age + (at + 2 * n) / 2 = omega (arith, even, part) in
    record {
      within = omega (arith, end, c.loop-at.auto.sums);
      even = omega (arith, even);
      here =
          subst (λ x. IsVoiceState c.args.points.now c.args.v.now x c.fill_run.new.state) later
          c.fill_run.ensures.there;
      done =
          below_piece (pos 0)
          (λ i y. IsAdded (get_or ys i (pos 0)) (snd v (nat_eq (i % 2) 0) (c.args.age + i / 2)) y) xs
          c.add_sides.new.sums at (2 * n) end len
          c.loop-at.invariant.done
          (λ k h.
          let there : k / 2 < length c.fill_run.new.run = omega (arith, h, made) in
          later_added v c.args.age at k (get_or ys (at + k) (pos 0)) _ _ even
          (in_piece (pos 0) xs at (2 * n) k end h ∙ c.loop-at.invariant.rest (at + k) (omega arith))
          (frame_added v (t + k / 2) (k % 2) _ _ _ _ _ (c.add_sides.ensures k (omega (arith, h, len)))
          (c.fill_run.ensures.audible (k / 2) there)
          c.left_part.ensures.value c.right_part.ensures.value));
      rest = after_piece (pos 0) xs ys c.add_sides.new.sums at (2 * n) end len c.loop-at.invariant.rest;
      room = grind (arith, common_steps, fits, made, c.loop-at.invariant.room);
    }
