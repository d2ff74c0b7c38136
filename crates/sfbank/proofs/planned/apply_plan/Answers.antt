use Rattle.sfbank.proofs.planned.apply_plan.Goals as goal

pub returns : goal.returns
returns g c = record {
  edits = c.in_ok-edits.edits.items;
  promised = c.in_ok-edits.ensures.promised;
  is_accepted = c.in_ok-edits.ensures.accepted;
  texts = c.in_ok-apply_accepted.ensures;
}
