use Rattle.std.proofs.Common.{◌≡◌, ◌+◌, ◌≤◌, arith, length, take, subst}
use Rattle.std.proofs.lemmas.Grind.{common_steps}
use Rattle.voices.specs.VoiceState.{IsVoiceState}
use Rattle.voices.proofs.adding.add_run_apart.Goals as goal

pub returns-clause-state : goal.returns-clause-state
returns-clause-state c =
    let n = length c.args.middle.now in
    let fits : n ≤ length c.args.run.now = omega (arith, c.requires.short) in
    let part : length (take n c.args.run.now) ≡ n = grind (arith, common_steps, fits) in
    subst (λ m. IsVoiceState c.args.points.now c.args.v.now (c.args.age + m) c.fill_run.new.state) part
    c.fill_run.ensures.there
