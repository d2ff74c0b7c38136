use Rattle.plan_edits.proofs.AlikeSteps.{tidying}
use Rattle.plan_edits.proofs.tidy.tidy_edits.Goals as goal

pub returns : goal.returns
returns c =
    let first = c.in_ok-draft.draft in
    let now = c.tidy_draft.new.draft in
    tidying c.args.bank.now first now c.into_edits.result.items c.in_ok-draft.ensures.first c.in_ok-draft.ensures.same
    c.in_ok-draft.ensures.none c.in_ok-tidy_draft.ensures.adds c.into_edits.ensures.leads c.into_edits.ensures.edits
    c.in_ok-tidy_draft.ensures.used
