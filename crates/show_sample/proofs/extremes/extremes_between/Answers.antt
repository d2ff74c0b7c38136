use Rattle.std.proofs.Common.{◌≡◌, ◌<◌, ◌≤◌, ◌*◌, ◌/◌, ◌-◌, ℕ, length, take, drop, arith, subst, ap, sym, ◌∙◌}
use Rattle.std.specs.Prelude.{slice_range}
use Rattle.std.proofs.lemmas.List.{length-take, length-drop}
use Rattle.sample_view.specs.Words.{words}
use Rattle.show_sample.specs.declared.extremes.Extremes.{Extremes}
use Rattle.show_sample.specs.Extremes.{AreExtremes, widened_by, extremes_of}
use Rattle.show_sample.proofs.ExtremeLaws.{run_more, are_extremes}
use Rattle.show_sample.proofs.extremes.extremes_between.Goals as goal

pub loop-index-preserved : goal.loop-index-preserved
loop-index-preserved c =
    let count = c.min-count.ensures in
    let run = c.run_from-run.result.now in
    let begins = c.loop-index.invariant.begins in
    let within = c.loop-index.invariant.within in
    let few : c.min-count.result ≤ length run / 2 = omega (arith, count) in
    record {
      begins = omega (arith, begins);
      within = omega (arith, count, within, c.loop-index-test.true);
      found = c.widened-found.ensures
          ∙ ap (λ (e : Extremes). widened_by e (words (take (2 * c.min-count.result) run))) c.loop-index.invariant.found
          ∙ run_more _ c.args.points.now run c.args.start c.loop-index.index c.min-count.result begins
          c.run_from-run.ensures.points few;
    }

pub returns-clause-bounds : goal.returns-clause-bounds
returns-clause-bounds c =
    let points = c.args.points.now in
    let within = c.loop-index.invariant.within in
    let end : c.loop-index.index ≡ c.args.end = omega (arith, within, c.loop-index-test.false) in
    let found = c.loop-index.invariant.found ∙ ap (λ (i : ℕ). extremes_of (slice_range points c.args.start i)) end in
    let window = slice_range points c.args.start c.args.end in
    let size = length-take (c.args.end - c.args.start) (drop c.args.start points) in
    let rest = length-drop c.args.start points in
    let some : 0 < length window = omega (arith, size, rest, c.requires.order, c.requires.inside) in
    subst (λ (e : Extremes). AreExtremes window e) (sym found) (are_extremes window some)
