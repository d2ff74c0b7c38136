use Rattle.std.proofs.Common.{subst}
use Rattle.base_outputs.specs.Output.{Puts}
use Rattle.base_outputs.proofs.OutputLaws.{putting_member}
use Rattle.edit_forms.specs.declared.edit.Edit.{Edit}
use Rattle.script_comments.specs.Comments.{comment_of}
use Rattle.script_comments.specs.Lines.{commented_line}
use Rattle.commented_scripts.proofs.script.put_edits.Goals as goal

pub loop-edit-preserved : goal.loop-edit-preserved
loop-edit-preserved g c =
    let put =
    subst
    (λ (e : Edit).
    Puts g.W.Write.contents c.loop-edit.output c.put_named_edit.new.output
    (commented_line e (comment_of c.args.bank.now e)))
    c.edit-item.is c.put_named_edit.ensures in
    putting_member (λ (e : Edit). commented_line e (comment_of c.args.bank.now e)) c.args.edits.now
    c.loop-edit.edit-index c.edit-item.result c.loop-edit.invariant c.loop-edit-test.true put
