use Rattle.std.proofs.Common.{◌≡◌, ◌<◌, ◌-◌, ◌+◌, ℕ, List, map, ap, sym, ◌∙◌, arith, rules}
use Rattle.std.specs.Prelude.{max}
use Rattle.std.specs.List.{fold}
use Rattle.show_findings.specs.Clicks.{step_between}
use Rattle.show_findings.proofs.GatherLaws.{from, from_on}
use Rattle.show_findings.proofs.clicks.largest_step.Goals as goal

pub loop-at-preserved : goal.loop-at-preserved
loop-at-preserved c =
    let step : ℕ → ℕ = λ i. step_between c.args.points.now i (i + 1) in
    let at = c.loop-at.at in
    let end = c.saturating_sub-at-end.ensures in
    let before : at < c.args.to - 1 = omega (arith, c.loop-at-test.true, end) in
    let larger : c.max-largest.result ≡ max c.loop-at.largest (step at) = search rules in
    ap (λ n. fold max n (map step (from (at + 1) (c.args.to - 1)))) larger
    ∙ sym (ap (λ (is : List ℕ). fold max c.loop-at.largest (map step is)) (from_on at (c.args.to - 1) before))
    ∙ c.loop-at.invariant
