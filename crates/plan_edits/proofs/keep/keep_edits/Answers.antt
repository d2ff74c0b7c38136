use Rattle.std.proofs.Common.{subst, ◌∙◌}
use Rattle.script_of_bank.specs.LeadsTo.{Leads}
use Rattle.plan_edits.specs.Uses.{HasNoUnused}
use Rattle.plan_edits.specs.Keeping.{OnlyKept, KeepsNotes}
use Rattle.plan_edits.proofs.PresetLaws.{keeps_on, keeping}
use Rattle.plan_edits.proofs.SetLaws.{keeps_notes_too, only_kept_too}
use Rattle.plan_edits.proofs.keep.keep_edits.Goals as goal

pub returns : goal.returns
returns c =
    let list = c.args.kept.now in
    let kept = c.in_ok-set.set.keys in
    let same = c.in_ok-set.ensures in
    let now = c.remove_unused.new.draft.bank in
    keeping list c.args.bank.now now c.into_edits.result.items
    (subst (λ first. Leads first c.into_edits.result.items now)
    (c.remove_unused.ensures.first ∙ c.remove_other_presets.ensures.first ∙ c.in_ok-draft.ensures.first)
    c.into_edits.ensures.leads)
    (keeps_notes_too kept list c.args.bank.now now same
    (keeps_on kept c.args.bank.now c.remove_other_presets.new.draft.bank now
    (subst (λ b. KeepsNotes kept b c.remove_other_presets.new.draft.bank) c.in_ok-draft.ensures.same
    c.remove_other_presets.ensures.keeps)
    (λ n _. c.remove_unused.ensures.alike n)))
    (only_kept_too kept list now same (subst (OnlyKept kept) c.bank.ensures (c.are_kept.ensures c.if-not-are_kept.false)))
    (subst HasNoUnused c.bank-else-not-are_kept.ensures (c.in_ok-has_no_unused.ensures c.if-not-branch.false))
