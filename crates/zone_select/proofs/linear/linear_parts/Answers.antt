use Rattle.std.proofs.Common.{◌≡◌, ◌+ℤ◌, ℕ, ℤ, take, pos, to_z, of_z, sym, ◌∙◌, ap, arith}
use Rattle.std.specs.Int.{w32}
use Rattle.std.specs.List.{fold}
use Rattle.std.proofs.lemmas.Int.{ints}
use Rattle.zone_select.specs.Amounts.{linear_part, linear_sources}
use Rattle.zone_select.proofs.LinearLaws.{one_more, all_summed}
use Rattle.zone_select.specs.ZoneSettings.{settings_of}
use Rattle.zone_select.proofs.linear.linear_parts.Goals as goal

pub loop-source-preserved : goal.loop-source-preserved
loop-source-preserved c =
    let f : ℕ → ℤ =
    linear_part c.args.key c.args.velocity (settings_of c.args.zones.now.instrument)
    (settings_of c.args.zones.now.preset) c.args.operator in
    let there = c.loop-source-test.true in
    let i : ℕ = c.loop-source.source-index in
    let items = c.loop-source.invariant.items in
    let w = c.linear_part-sum.ensures.within in
    let low = c.loop-source.invariant.low in
    let high = c.loop-source.invariant.high in
    let step : to_z w32 (of_z w32 (to_z w32 c.loop-source.sum-bits +ℤ to_z w32 (of_z w32 c.linear_part-sum.result)))
    ≡ to_z w32 c.loop-source.sum-bits +ℤ c.linear_part-sum.result =
    omega (arith, ints, w.0, w.1, low, high) in
    record {
      added =
          step
          ∙ ap (λ (z : ℤ). z +ℤ c.linear_part-sum.result) c.loop-source.invariant.added
          ∙ ap (λ (z : ℤ). fold (λ s y. s +ℤ f y) (pos 0) (take i linear_sources) +ℤ z) c.linear_part-sum.ensures.value
          ∙ sym (one_more f linear_sources i 0 there);
      items = items;
      low = omega (arith, ints, w.0, w.1, low, high);
      high = omega (arith, ints, w.0, w.1, low, high);
    }

pub returns-clause-value : goal.returns-clause-value
returns-clause-value c =
    let f : ℕ → ℤ =
    linear_part c.args.key c.args.velocity (settings_of c.args.zones.now.instrument)
    (settings_of c.args.zones.now.preset) c.args.operator in
    let past = c.loop-source-test.false in
    c.loop-source.invariant.added ∙ all_summed f linear_sources c.loop-source.source-index (omega (arith, past))
