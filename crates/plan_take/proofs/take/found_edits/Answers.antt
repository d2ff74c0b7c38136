use Rattle.std.proofs.Common.{subst, ap, sym, ◌∙◌}
use Rattle.bank_parts.specs.declared.parts.Parts.{Parts}
use Rattle.plan_take.specs.Taking.{OfEach, IsCopied}
use Rattle.plan_take.proofs.AdditionLaws.{taking}
use Rattle.plan_take.proofs.take.found_edits.Goals as goal

pub returns : goal.returns
returns c =
    let from = c.args.from.now in
    let presets = c.args.presets.now in
    taking from c.args.bank.now presets c.in_ok-draft.draft c.add_samples.new.draft c.add_instruments.new.draft
    c.add_presets.new.draft c.into_edits.result.items c.requires c.in_ok-draft.ensures.first c.in_ok-draft.ensures.same
    c.add_samples.ensures c.add_instruments.ensures c.add_presets.ensures
    (subst (λ (b : Parts). OfEach (IsCopied from b) presets) c.bank.ensures
    (c.are_copied-copied.ensures c.if-not-copied.false))
    (sym (ap (λ (b : Parts). b.texts) c.bank-else-not-copied.ensures) ∙ c.same_texts.ensures.0 c.if-not-same_texts.false)
    c.into_edits.ensures.leads
