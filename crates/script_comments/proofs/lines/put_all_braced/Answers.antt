use Rattle.script_grammar.proofs.ZonePutLaws.{member_on}
use Rattle.edit_script.proofs.PutLaws.{braced_text}
use Rattle.script_comments.proofs.lines.put_all_braced.Goals as goal

pub loop-step-preserved : goal.loop-step-preserved
loop-step-preserved g c =
    member_on braced_text c.args.steps.now _ c.loop-step.step-index c.loop-step.invariant c.loop-step-test.true
    c.step-item.is c.put_braced.ensures
