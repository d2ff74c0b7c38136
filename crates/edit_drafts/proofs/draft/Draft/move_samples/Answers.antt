use Rattle.edit_drafts.proofs.MoveLaws.{leads_with_moves}
use Rattle.edit_drafts.proofs.draft.Draft.move_samples.Goals as goal

pub invariant_of-self : goal.invariant_of-self
invariant_of-self c =
    leads_with_moves c.self.inside.first.now c.self.inside.bank c.apply_moves.new.bank c.self.inside.edits.items
    c.apply_moves.new.edits.items c.args.moves.now c.apply_moves.result c.apply_moves.ensures c.self.invariant
