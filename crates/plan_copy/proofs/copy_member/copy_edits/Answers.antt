use Rattle.plan_copy.proofs.CopyLaws.{copying}
use Rattle.plan_copy.proofs.copy_member.copy_edits.Goals as goal

pub returns : goal.returns
returns c =
    copying c.args.bank.now c.args.member c.args.name c.in_ok-step.step c.in_ok-draft.draft c.edit.new.self
    c.into_edits.result.items c.soundness.ensures c.in_ok-step.ensures c.in_ok-draft.ensures.first
    c.in_ok-draft.ensures.same c.edit.ensures.first c.in_ok-edit.ensures.done c.into_edits.ensures.leads
