use Rattle.plan_edits.proofs.AlikeSteps.{adds_both}
use Rattle.plan_edits.proofs.tidy.tidy_draft.Goals as goal

pub returns-clause-adds : goal.returns-clause-adds
returns-clause-adds c =
    let first = c.args.draft.now in
    let now = c.join_zones.new.draft in
    adds_both first c.repair_links.new.draft now
    (adds_both first c.remove_unused.new.draft c.repair_links.new.draft c.remove_unused.ensures c.repair_links.ensures)
    c.join_zones.ensures
