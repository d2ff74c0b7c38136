use Rattle.std.proofs.Common.{sym, subst, ◌≤◌, ◌≡◌, ◌+◌, ◌*◌, ◌/◌, List, ℕ, length, take, drop}
use Rattle.std.proofs.lemmas.List.{take_rest}
use Rattle.sample_view.specs.Words.{words}
use Rattle.show_sample.proofs.PointRuns.{run_inside, run_points}
use Rattle.show_sample.proofs.extremes.run_from.Goals as goal

pub returns-clause-inside : goal.returns-clause-inside
returns-clause-inside c =
    let bytes = c.slice_at-position.result.0.now in
    let position = c.slice_at-position.result.1 in
    subst (λ (part : List ℕ). c.args.index + length part / 2 ≤ length c.args.points.now) (sym (take_rest bytes (2 * position)))
    (run_inside c.args.points.now bytes c.args.index position c.slice_at-position.ensures.run c.requires)

pub returns-clause-points : goal.returns-clause-points
returns-clause-points c =
    let bytes = c.slice_at-position.result.0.now in
    let position = c.slice_at-position.result.1 in
    subst (λ (part : List ℕ). words part ≡ take (length part / 2) (drop c.args.index c.args.points.now))
    (sym (take_rest bytes (2 * position)))
    (run_points c.args.points.now bytes c.args.index position c.slice_at-position.ensures.run)
