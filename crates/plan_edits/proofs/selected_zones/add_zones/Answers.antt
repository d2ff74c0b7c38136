use Rattle.plan_edits.proofs.SelectedLaws.{is_later, adds_both}
use Rattle.plan_edits.proofs.selected_zones.add_zones.Goals as goal

pub loop-pair-preserved : goal.loop-pair-preserved
loop-pair-preserved c = record {
  can_next = tt;
  is_finite = tt;
  left =
      λ q h.
      c.loop-pair.invariant.left q (is_later c.loop-pair.pairs c.next.new.self c.in-Some-next.pair q c.in-Some-next.ensures.steps h);
  adds =
      adds_both c.args.bank.now c.args.note.now c.args.set.now c.loop-pair.set c.add_pair.new.set c.loop-pair.invariant.adds
      c.add_pair.ensures;
}
