use Rattle.std.proofs.Common.{◌≡◌, ◌+◌, ◌-◌, ◌*◌, ◌%◌, ◌<◌, ◌≤◌, ℕ, true, length, take, drop, arith, ap, subst, sym}
use Rattle.std.proofs.Common.{◌∙◌}
use Rattle.std.proofs.lemmas.Grind.{common_steps}
use Rattle.voices.specs.Position.{position, is_looping}
use Rattle.voices.specs.Points.{point_of}
use Rattle.voices.specs.Runs.{limit, wrapped_position, interpolated_pair}
use Rattle.sound_envelopes.proofs.WriteLaws.{below_prefix}
use Rattle.voices.proofs.RunLaws.{position_near, position_on, gone_near, gone_part}
use Rattle.voices.proofs.OverLaws.{is_looped_at}
use Rattle.voices.proofs.slices.fill_pairs.Goals as goal

pub fill_prefix-n-requires-clause-near : goal.fill_prefix-n-requires-clause-near
fill_prefix-n-requires-clause-near c =
    let at = c.loop-at.at in
    let lt : at < length c.args.pairs.now = omega (arith, c.loop-at-test.true, c.loop-at.auto.pairs) in
    let e : c.loop-at.x ≡ position c.args.v.now (c.args.t + at) = c.loop-at.invariant.here in
    subst (λ x. x < 65536 * limit c.args.v.now c.is_looping_at-looping.result) (sym e)
    (position_near (length c.args.points.now) c.args.v.now (c.args.t + at) c.is_looping_at-looping.result
    c.requires.playable
    (c.requires.is_stretch.sounds at lt) (c.requires.is_stretch.same at lt ∙ sym c.is_looping_at-looping.ensures))

pub loop-at-preserved : goal.loop-at-preserved
loop-at-preserved c =
    let at = c.loop-at.at in
    let n = c.fill_prefix-n.result.0 in
    let v = c.args.v.now in
    let t = c.args.t in
    let xs = c.loop-at.pairs in
    let new = c.fill_prefix-n.new.pairs in
    let looping = c.is_looping_at-looping.result in
    let m : ℕ = length xs - at in
    let inside : at < length xs = c.loop-at-test.true in
    let auto : length xs ≡ length c.args.pairs.now = c.loop-at.auto.pairs in
    let len : length new ≡ m =
    c.fill_prefix-n.auto.pairs
    ∙ (let e : length (take (length xs - at) (drop at xs)) ≡ m = grind (arith, common_steps) in e) in
    let part : n ≤ m = omega (arith, c.fill_prefix-n.ensures.some.1, len) in
    let e : c.loop-at.x ≡ position v (t + at) = c.loop-at.invariant.here in
    let fraction_is = c.loop-at.invariant.part in
    let same : (j : ℕ) → j < m → is_looping v (t + at + j) ≡ looping =
    λ j h.
    ap (is_looping v) (let q : t + at + j ≡ t + (at + j) = omega arith in q)
    ∙ c.requires.is_stretch.same (at + j) (omega (arith, h, auto)) ∙ sym c.is_looping_at-looping.ensures in
    let here : is_looping v (t + at) ≡ looping =
    c.requires.is_stretch.same at (omega (arith, inside, auto)) ∙ sym c.is_looping_at-looping.ensures in
    let ordered = c.requires.playable.ordered in
    let loop_is : looping ≡ true → v.loop_start < v.loop_end = λ l. ordered (is_looped_at v (t + at) (here ∙ l)) in
    let gone : (k : ℕ) → k ≤ n → position v (t + (at + k)) ≡ wrapped_position v looping (c.loop-at.x + k * v.phase_increment) =
    λ k h. ap (position v) (let q : t + (at + k) ≡ t + at + k = omega arith in q)
    ∙ position_on v (t + at) k looping ordered here (λ j l. same j (omega arith)) loop_is
    ∙ ap (λ x. wrapped_position v looping (x + k * v.phase_increment)) (sym e) in
    let long : length (borrow.Rule.Slice.PartMut.put_mid at (length xs - at) xs new) ≡ length xs =
    grind (arith, common_steps) in
    let fractions_equal : (k : ℕ) → (c.loop-at.x + k * v.phase_increment) % 65536 ≡ (c.args.from + (at + k) * v.phase_increment) % 65536 =
    λ k. omega (arith, fraction_is) in
    record {
      within = omega (arith, part, long, inside);
      is_current = c.fill_prefix-n.ensures.is_current;
      here = c.advanced-x.ensures ∙ sym (gone n (omega arith));
      part =
          ap (λ y. y % 65536) c.advanced-x.ensures ∙ gone_part v looping (c.loop-at.x + n * v.phase_increment) loop_is
          ∙ fractions_equal n;
      done =
          below_prefix 0
          (λ k y.
          interpolated_pair y ((c.args.from + k * v.phase_increment) % 65536)
          ≡ point_of c.args.points.now v (is_looping v (t + k)) (position v (t + k)))
          xs new at m n (omega arith) len part
          c.loop-at.invariant.done
          (λ k h.
          let near = c.fill_prefix-n.ensures.before k h in
          let p : position v (t + (at + k)) ≡ c.loop-at.x + k * v.phase_increment =
          gone k (omega arith) ∙ gone_near v looping (c.loop-at.x + k * v.phase_increment) near in
          let l : is_looping v (t + (at + k)) ≡ looping =
          ap (is_looping v) (let q : t + (at + k) ≡ t + at + k = omega arith in q) ∙ same k (omega arith) in
          ap (interpolated_pair _) (sym (fractions_equal k))
          ∙ c.fill_prefix-n.ensures.value k h
          ∙ ap (λ b. point_of c.args.points.now v b (c.loop-at.x + k * v.phase_increment)) (sym l)
          ∙ ap (point_of c.args.points.now v (is_looping v (t + (at + k)))) (sym p));
    }

pub returns-clause-there : goal.returns-clause-there
returns-clause-there c =
    let e : c.loop-at.at ≡ length c.args.pairs.now = omega (arith, c.loop-at.invariant.within, c.loop-at.auto.pairs) in
    c.loop-at.invariant.here ∙ ap (λ k. position c.args.v.now (c.args.t + k)) e
