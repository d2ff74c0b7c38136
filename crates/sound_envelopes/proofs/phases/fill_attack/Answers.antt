use Rattle.std.proofs.Common.{◌≡◌, ◌≤◌, ◌++◌, take, drop, length, get_or, arith, ◌∙◌}
use Rattle.std.proofs.lemmas.Grind.{common_steps}
use Rattle.sound_envelopes.proofs.PhaseLaws.{attack_is}
use Rattle.sound_envelopes.proofs.phases.fill_attack.Goals as goal

pub returns-clause-value : goal.returns-clause-value
returns-clause-value c k h =
    let n = c.min-n.result in
    let xs = c.args.levels.now in
    let new = c.fill_rising.new.levels in
    let fits : n ≤ length xs = omega (arith, c.min-n.ensures) in
    let len : length new ≡ n =
    c.fill_rising.auto.levels ∙ (let e : length (take n xs) ≡ n = grind (arith, common_steps) in e) in
    let o : get_or (new ++ drop n xs) k 0 ≡ get_or new k 0 = grind (arith, common_steps) in
    o ∙ c.fill_rising.ensures k (omega (arith, h, len))
    ∙ attack_is c.args.v.now c.args.t k c.from-attack.result c.from-delay.result c.from-attack.ensures
    c.from-delay.ensures
    (omega (arith, c.from-delay.ensures, c.requires.rising)) (omega (arith, h, c.min-n.ensures))
    (omega (arith, h, fits, c.requires.held))
