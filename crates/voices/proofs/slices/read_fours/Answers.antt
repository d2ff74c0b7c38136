use Rattle.std.proofs.Common.{◌≡◌, ℕ, List, ◌+◌, ◌-◌, ◌*◌, ◌/◌, ◌<◌, ◌≤◌, set, length, ap, arith, ◌∙◌}
use Rattle.std.proofs.lemmas.Grind.{common_steps}
use Rattle.std.proofs.lemmas.Nat.{mul-le}
use Rattle.sample_view.specs.Words.{words}
use Rattle.voices.specs.Runs.{pair_at}
use Rattle.sound_envelopes.proofs.WriteLaws.{below_set}
use Rattle.voices.proofs.slices.read_fours.Goals as goal

-- four more frames before the end
record Four (position phase_increment long : ℕ) : Type 0 where
  room : position + 4 * phase_increment < 4294967296
  first : 2 * (position / 65536) + 3 < long
  second : 2 * ((position + phase_increment) / 65536) + 3 < long
  third : 2 * ((position + 2 * phase_increment) / 65536) + 3 < long
  fourth : 2 * ((position + 3 * phase_increment) / 65536) + 3 < long

four : (x phase_increment position k n long : ℕ) → position ≡ x + k * phase_increment → x + n * phase_increment < 4294967296
    → ((j : ℕ) → j < n → 2 * ((x + j * phase_increment) / 65536) + 3 < long) → 4 ≤ n - k → Four position phase_increment long
four x phase_increment position k n long here near ends h =
    let far : (k + 4) * phase_increment ≤ n * phase_increment = mul-le (k + 4) phase_increment n phase_increment (omega (arith, h)) (omega arith) in
    let a = ends k (omega (arith, h)) in
    let b = ends (k + 1) (omega (arith, h)) in
    let c = ends (k + 2) (omega (arith, h)) in
    let d = ends (k + 3) (omega (arith, h)) in
    record {
      room = omega (arith, here, near, far);
      first = omega (arith, here, a);
      second = omega (arith, here, b);
      third = omega (arith, here, c);
      fourth = omega (arith, here, d);
    }

pub loop-pairs-preserved : goal.loop-pairs-preserved
loop-pairs-preserved c =
    let k = c.loop-pairs.k in
    let x = c.args.x in
    let phase_increment = c.args.phase_increment in
    let position = c.loop-pairs.position in
    let xs = c.loop-pairs.pairs in
    let ws = words c.args.bytes.now in
    let here : position ≡ x + k * phase_increment = c.loop-pairs.invariant.here in
    let more : 4 ≤ length xs - k = c.loop-pairs-test.true in
    let ys : List ℕ = set xs k c.pair_in.result in
    let zs : List ℕ = set ys (k + 1) c.pair_in-in-loop-pairs.result in
    let us : List ℕ = set zs (k + 2) c.pair_in-in-loop-pairs-2.result in
    let vs : List ℕ = set us (k + 3) c.pair_in-in-loop-pairs-3.result in
    let long-y : length ys ≡ length xs = grind (arith, common_steps) in
    let long-z : length zs ≡ length xs = grind (arith, common_steps) in
    let long-u : length us ≡ length xs = grind (arith, common_steps) in
    let long-v : length vs ≡ length xs = grind (arith, common_steps) in
    let next : position + 4 * phase_increment ≡ x + (k + 4) * phase_increment = omega (arith, here) in
    let ahead : 4 ≤ length vs - (k + 4) → Four (position + 4 * phase_increment) phase_increment (length c.args.bytes.now) =
    λ h.
    four x phase_increment (position + 4 * phase_increment) (k + 4) (length c.args.pairs.now) (length c.args.bytes.now) next
    c.requires.near c.requires.ends (omega (arith, h, long-v, c.loop-pairs.auto.pairs)) in
    let P : ℕ → ℕ → Type 0 = λ i y. y ≡ pair_at ws ((x + i * phase_increment) / 65536) in
    let at : (m i : ℕ) → m ≡ x + i * phase_increment → pair_at ws (m / 65536) ≡ pair_at ws ((x + i * phase_increment) / 65536) =
    λ m i e. ap (λ n. pair_at ws (n / 65536)) e in
    let one =
    below_set 0 P xs k c.pair_in.result (omega (arith, more)) c.loop-pairs.invariant.done
    (c.pair_in.ensures ∙ at position k here) in
    let two = below_set 0 P ys (k + 1) c.pair_in-in-loop-pairs.result (omega (arith, more, long-y)) one
    (c.pair_in-in-loop-pairs.ensures ∙ at (position + phase_increment) (k + 1) (omega (arith, here))) in
    let three =
    below_set 0 P zs (k + 2) c.pair_in-in-loop-pairs-2.result (omega (arith, more, long-z))
    (λ j h. two j (omega (arith, h)))
    (c.pair_in-in-loop-pairs-2.ensures ∙ at (position + 2 * phase_increment) (k + 2) (omega (arith, here))) in
    let all =
    below_set 0 P us (k + 3) c.pair_in-in-loop-pairs-3.result (omega (arith, more, long-u))
    (λ j h. three j (omega (arith, h)))
    (c.pair_in-in-loop-pairs-3.ensures ∙ at (position + 3 * phase_increment) (k + 3) (omega (arith, here))) in
    record {
      within = omega (arith, more, long-v);
      here = next;
      room = λ h. (ahead h).room;
      first = λ h. (ahead h).first;
      second = λ h. (ahead h).second;
      third = λ h. (ahead h).third;
      fourth = λ h. (ahead h).fourth;
      done = λ j h. all j (omega (arith, h));
    }
