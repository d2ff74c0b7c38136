use Rattle.plan_edits.proofs.unselected.has_no_unselected.Goals as goal

pub returns : goal.returns
returns c all o count e k lt = c.in_ok-selected.ensures o k (c.has_all_zones.ensures all o count e k lt)
