use Rattle.std.proofs.Common.{List, map, sym, subst, ◌∙◌}
use Rattle.bank_parts.specs.declared.parts.Head.{Head}
use Rattle.bank_parts.specs.declared.parts.ZoneOwner.{ZoneOwner}
use Rattle.plan_take.specs.Additions.{AddsPresets}
use Rattle.plan_take.specs.Merging.{taken_shifted}
use Rattle.plan_take.proofs.MergeLaws.{merging}
use Rattle.plan_take.proofs.merge.found_edits.Goals as goal

pub returns : goal.returns
returns c =
    merging c.args.from.now c.args.bank.now c.args.shift c.in_ok-draft.draft c.add_all_samples.new.draft
    c.add_all_instruments.new.draft c.add_all_presets.new.draft c.into_edits.result.items c.requires
    c.in_ok-draft.ensures.first c.in_ok-draft.ensures.same c.add_all_samples.ensures c.add_all_instruments.ensures
    (subst
    (λ (ps : List (ZoneOwner Head)).
    AddsPresets (map (taken_shifted c.args.shift) ps) c.add_all_instruments.new.draft c.add_all_presets.new.draft)
    c.presets.ensures.value c.add_all_presets.ensures)
    (sym c.bank.ensures ∙ c.is_merged.ensures c.if-not-is_merged.false) c.into_edits.ensures.leads
