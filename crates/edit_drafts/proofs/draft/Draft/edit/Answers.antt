use Rattle.edit_drafts.proofs.DraftLaws.{leads_on}
use Rattle.edit_drafts.proofs.draft.Draft.edit.Goals as goal

pub invariant_of-self : goal.invariant_of-self
invariant_of-self c =
    leads_on c.self.inside.first.now c.self.inside.bank c.apply_step.new.bank c.self.inside.edits.items
    c.apply_step.new.edits.items c.args.step c.apply_step.result
    c.apply_step.ensures c.self.invariant
