use Rattle.std.proofs.Common.{subst, ◌∙◌}
use Rattle.script_of_bank.specs.LeadsTo.{Leads}
use Rattle.plan_edits.specs.Playing.{OnlyPlayedIsLeft}
use Rattle.plan_edits.proofs.PlayedLaws.{keeping_played}
use Rattle.plan_edits.proofs.keep_played.keep_played_edits.Goals as goal

pub returns : goal.returns
returns c =
    let notes = c.args.notes.now in
    let now = c.remove_unused.new.draft.bank in
    keeping_played notes c.args.bank.now now c.into_edits.result.items
    (subst (λ first. Leads first c.into_edits.result.items now)
    (c.remove_unused.ensures.first ∙ c.remove_other_presets.ensures.first ∙ c.remove_unselected.ensures
    ∙ c.in_ok-draft.ensures.first)
    c.into_edits.ensures.leads)
    (subst (OnlyPlayedIsLeft notes c.args.bank.now) c.bank.ensures
    (c.in_ok-is_all_that_is_left.ensures c.if-not-branch.false))
