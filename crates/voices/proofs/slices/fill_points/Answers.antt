use Rattle.std.proofs.Common.{◌+◌, ◌*◌, ◌%◌, ◌≤◌, length, arith, ap, subst, sym, ◌∙◌}
use Rattle.std.proofs.lemmas.Nat.{mul-le}
use Rattle.voices.specs.Position.{position}
use Rattle.voices.specs.Runs.{IsStretch, interpolated_pair}
use Rattle.voices.proofs.RunLaws.{same_part}
use Rattle.voices.proofs.slices.fill_points.Goals as goal

pub fill_pairs-after_run-requires-clause-is_stretch : goal.fill_pairs-after_run-requires-clause-is_stretch
fill_pairs-after_run-requires-clause-is_stretch c =
    subst (λ n. IsStretch c.args.v.now c.args.t n) (sym c.requires.long) c.requires.is_stretch

pub interpolate-requires-clause-near : goal.interpolate-requires-clause-near
interpolate-requires-clause-near c =
    let e : length c.args.run.now * (c.args.v.now.phase_increment % 65536) ≤ 1024 * 65536 =
    mul-le (length c.args.run.now) (c.args.v.now.phase_increment % 65536) 1024 65536 c.requires.short (omega arith) in
    omega (arith, e)

pub returns-clause-points : goal.returns-clause-points
returns-clause-points c i h =
    c.interpolate.ensures i h
    ∙ ap (interpolated_pair _) (same_part c.args.from c.args.v.now.phase_increment i)
    ∙ c.fill_pairs-after_run.ensures.pairs i
    (omega (arith, h, c.interpolate.auto.run, c.fill_pairs-after_run.auto.pairs, c.requires.long))

pub returns-clause-there : goal.returns-clause-there
returns-clause-there c = c.fill_pairs-after_run.ensures.there ∙ ap (λ n. position c.args.v.now (c.args.t + n)) c.requires.long
