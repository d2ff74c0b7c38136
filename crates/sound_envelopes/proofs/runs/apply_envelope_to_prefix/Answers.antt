use Rattle.std.proofs.Common.{◌≡◌, ◌+◌, ◌≤◌, ◌++◌, ℤ, pos, get_or, length, take, drop, arith, ap, sym, ◌∙◌}
use Rattle.std.proofs.lemmas.Grind.{common_steps}
use Rattle.sound_envelopes.specs.Envelope.{envelope}
use Rattle.sound_envelopes.specs.Gain.{scaled_by}
use Rattle.sound_envelopes.proofs.GainLaws.{full_level}
use Rattle.sound_envelopes.proofs.PhaseLaws.{envelope_within}
use Rattle.sound_envelopes.proofs.runs.apply_envelope_to_prefix.Goals as goal

pub returns-clause-value : goal.returns-clause-value
returns-clause-value c k h =
    let n = c.min-n.result in
    let xs = c.args.run.now in
    let v = c.args.v.now in
    let t = c.args.t in
    let level = c.fill_gains-low.result.1 in
    let none : c.fill_gains-low.result.0 ≡ 0 = (let f = c.if-low-gt0.false in omega (arith, f)) in
    let full =
    c.fill_gains-low.ensures.full
    (omega (arith, none, c.requires.some, c.requires.long, c.fill_gains-low.auto.levels)) in
    let most = c.min-n.ensures in
    let fits : n ≤ length xs = omega (arith, most) in
    let len : length c.apply_constant_gain.new.run ≡ n =
    c.apply_constant_gain.auto.run ∙ (let e : length (take n xs) ≡ n = grind (arith, common_steps) in e) in
    let o : get_or (c.apply_constant_gain.new.run ++ drop n xs) k (pos 0) ≡ get_or c.apply_constant_gain.new.run k (pos 0) =
    grind (arith, common_steps) in
    let was : get_or (take n xs) k (pos 0) ≡ get_or xs k (pos 0) = grind (arith, common_steps) in
    let here : envelope v (t + k) ≡ level.gain_value =
    c.fill_gains-low.ensures.is_current.even (t + k) (omega (arith, none)) (omega (arith, h, most, full.0, none))
    in
    let within = envelope_within v (t + k) in
    let all : 65536 ≡ envelope v (t + k) = omega (arith, here, within, full.1) in
    o ∙ c.apply_constant_gain.ensures k (omega (arith, h, len))
    ∙ ap (λ (y : ℤ). scaled_by y c.args.loudness)
    (was ∙ sym (full_level (get_or xs k (pos 0))) ∙ ap (scaled_by (get_or xs k (pos 0))) all)
    ∙ ap (scaled_by (scaled_by (get_or xs k (pos 0)) (envelope v (t + k)))) c.requires.loudness.0
