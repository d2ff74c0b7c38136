use Rattle.std.proofs.Common.{◌++◌, length, map, sym, ap, ◌∙◌, rules}
use Rattle.plan_take.specs.Shifted.{sample_shifted, targets_shifted, preset_shifted}
use Rattle.plan_take.proofs.MergeLaws.{merged_is}
use Rattle.plan_take.proofs.merge.is_merged.Goals as goal

pub returns : goal.returns
returns c t =
    let count = c.len-count.ensures ∙ ap length c.instruments-3.ensures.value in
    merged_is c.args.from.now c.args.bank.now c.args.edited.now c.args.shift (search rules)
    (c.same_texts.ensures.0 c.if-not-same_texts.false)
    (sym c.samples.ensures.value
    ∙ c.are_joined_samples.ensures c.if-not-are_joined_samples.false
    ∙ (λ i.
    c.samples-2.ensures.value i
    ++ map (sample_shifted (length (c.samples-2.ensures.value i))) (c.samples-3.ensures.value i)))
    (sym c.instruments-all.ensures.value
    ∙ c.are_joined_instruments.ensures c.if-not-are_joined_instruments.false
    ∙ (λ i.
    c.instruments.ensures.value i
    ++ map (targets_shifted (length (c.samples-count.ensures.value i))) (c.instruments-2.ensures.value i)))
    (sym c.presets-all.ensures.value
    ∙ c.are_joined_presets.ensures t
    ∙ (λ i. c.presets.ensures.value i ++ map (preset_shifted c.args.shift (count i)) (c.presets-2.ensures.value i)))
