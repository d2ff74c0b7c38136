use Rattle.std.proofs.Common.{◌≤◌, ◌∙◌, ap, arith, rules, length}
use Rattle.std.specs.Prelude.{FitsSigned}
use Rattle.std.specs.Int.{w16, int_min, int_max}
use Rattle.std.specs.List.{fold}
use Rattle.std.proofs.lemmas.Int.{to_z-of_z}
use Rattle.std.proofs.lemmas.List.{take_all}
use Rattle.sample_view.specs.Words.{words}
use Rattle.sample_view.proofs.WordLaws.{length-words}
use Rattle.show_sample.specs.Extremes.{signed}
use Rattle.show_sample.proofs.ExtremeLaws.{one_more}
use Rattle.show_sample.proofs.extremes.Extremes.widened.Goals as goal

pub loop-index-preserved : goal.loop-index-preserved
loop-index-preserved c =
    let bytes = c.args.bytes.now in
    let point = c.from_le_bytes-point in
    let point_fits : FitsSigned w16 point.result = search rules in
    let low_fits : FitsSigned w16 c.min-low.result = search rules in
    let high_fits : FitsSigned w16 c.max-high.result = search rules in
    let same = to_z-of_z w16 point.result point_fits in
    record {
      low = to_z-of_z w16 _ low_fits
          ∙ one_more int_min c.args.self.low _ point.result _ bytes c.loop-index.index c.loop-index-test.true
          c.loop-index.invariant.low point.ensures (c.min-low.ensures.value ∙ ap (int_min _) same);
      high = to_z-of_z w16 _ high_fits
          ∙ one_more int_max c.args.self.high _ point.result _ bytes c.loop-index.index c.loop-index-test.true
          c.loop-index.invariant.high point.ensures (c.max-high.ensures.value ∙ ap (int_max _) same);
    }

pub returns : goal.returns
returns c =
    let ws = words c.args.bytes.now in
    let past : length ws ≤ c.loop-index.index =
    omega (arith, length-words c.args.bytes.now, c.loop-index-test.false) in
    let all = take_all c.loop-index.index ws past in
    let low = c.loop-index.invariant.low ∙ ap (λ ps. fold int_min c.args.self.low (signed ps)) all in
    let high = c.loop-index.invariant.high ∙ ap (λ ps. fold int_max c.args.self.high (signed ps)) all in
    λ k. record { low = low k; high = high k }
