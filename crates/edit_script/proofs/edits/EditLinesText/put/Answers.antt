use Rattle.std.proofs.Common.{subst}
use Rattle.base_outputs.specs.Output.{Puts}
use Rattle.base_outputs.proofs.OutputLaws.{putting_member}
use Rattle.edit_forms.specs.declared.edit.Edit.{Edit}
use Rattle.edit_script.specs.Printing.{text_of}
use Rattle.edit_script.proofs.edits.EditLinesText.put.Goals as goal

pub loop-edit-preserved : goal.loop-edit-preserved
loop-edit-preserved g c =
    let put =
    subst (λ (e : Edit). Puts g.W.Write.contents c.loop-edit.output c.put_edit.new.output (text_of e))
    c.edit-item.is c.put_edit.ensures in
    putting_member text_of c.args.self.now.0.now c.loop-edit.edit-index c.edit-item.result c.loop-edit.invariant
    c.loop-edit-test.true put
