use Rattle.std.proofs.Common.{◌≡◌, ◌+◌, ◌-◌, ◌*◌, ◌/◌, ◌%◌, ◌<◌, ◌≤◌, ℕ, ◌++◌, take, drop, length, get_or, arith, ap}
use Rattle.std.proofs.Common.{◌∙◌}
use Rattle.std.proofs.lemmas.Grind.{common_steps}
use Rattle.std.proofs.lemmas.List.{length-drop, take_rest}
use Rattle.sample_view.specs.Words.{words}
use Rattle.voices.specs.Runs.{interpolated_pair, straight}
use Rattle.voices.proofs.SliceLaws.{run_from, straight_is}
use Rattle.voices.proofs.slices.fill_prefix.Goals as goal

pub read_straight-requires-clause-near : goal.read_straight-requires-clause-near
read_straight-requires-clause-near c =
    let n = c.frames_before-n.result in
    let phase_increment = c.args.v.now.phase_increment in
    let most : n ≤ length c.args.pairs.now = omega (arith, c.frames_before-n.ensures.most) in
    let len : length (take n c.args.pairs.now) ≡ n = grind (arith, common_steps) in
    let s = c.from-then-ends-gt1.ensures in
    let last = c.frames_before-n.ensures.before (n - 1) (omega (arith, c.frames_before-n.ensures.some)) in
    let before : (n - 1) * c.from-then-ends-gt1.result ≡ (n - 1) * phase_increment = ap (λ y. (n - 1) * y) s in
    let count : n ≡ n - 1 + 1 = omega (arith, c.frames_before-n.ensures.some) in
    let whole : length (take n c.args.pairs.now) * phase_increment ≡ (n - 1) * phase_increment + phase_increment =
    ap (λ y. y * phase_increment) (len ∙ count) ∙ omega arith in
    let far = c.min-ends.ensures in
    let slow = c.requires.playable.phase_increment in
    omega (arith, whole, before, last, far, slow, c.from.ensures)

pub returns-then-ends-gt1-clause-value : goal.returns-then-ends-gt1-clause-value
returns-then-ends-gt1-clause-value c k h =
    let n = c.frames_before-n.result in
    let x = c.args.x in
    let part : ℕ = x % 65536 + k * c.args.v.now.phase_increment in
    let bytes = c.around-slice.result.bytes.now in
    let first : ℕ = x / 65536 - c.around-slice.result.first in
    let ahead = drop (2 * first) bytes in
    let run = run_from c.args.points.now bytes (x / 65536) first c.around-slice.ensures.run in
    let fits : n ≤ length c.args.pairs.now = omega (arith, c.frames_before-n.ensures.most) in
    let len : length c.read_straight.new.pairs ≡ n =
    c.read_straight.auto.pairs
    ∙ (let e : length (take n c.args.pairs.now) ≡ n = grind (arith, common_steps) in e) in
    let o : get_or (c.read_straight.new.pairs ++ drop n c.args.pairs.now) k 0 ≡ get_or c.read_straight.new.pairs k 0 =
    grind (arith, common_steps) in
    let y : ℕ = x + k * c.args.v.now.phase_increment in
    let last = c.frames_before-n.ensures.before k h in
    let phase_increment : k * c.from-then-ends-gt1.result ≡ k * c.args.v.now.phase_increment = ap (λ s. k * s) c.from-then-ends-gt1.ensures in
    let i : ℕ = x / 65536 in
    let near : y / 65536 + 1 < i + c.min-ends.result = omega (arith, last, phase_increment, c.from.ensures) in
    let m = c.min-ends.ensures in
    let m' = c.min.ensures in
    let l = c.limit_of.ensures in
    let long = length-drop (2 * first) bytes in
    let d : part ≡ y - 65536 * (i - 0) = omega arith in
    let rest : y % 65536 ≡ part % 65536 = omega arith in
    ap (λ w. interpolated_pair w (y % 65536)) o
    ∙ ap (interpolated_pair (get_or c.read_straight.new.pairs k 0)) rest
    ∙ c.read_straight.ensures k (omega (arith, h, len))
    ∙ ap (λ b. straight (words b) part) (take_rest bytes (2 * first))
    ∙ ap (straight (words ahead)) d
    ∙ straight_is c.args.points.now ahead c.args.v.now c.args.looping i 0 y run
    (λ g. c.requires.playable.loop_inside (c.requires.looped g)) (omega arith) (omega (arith, near, m, m', l))
    (omega (arith, near, m, m', long))
