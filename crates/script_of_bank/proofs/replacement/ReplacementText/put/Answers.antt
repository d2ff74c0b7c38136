use Rattle.std.proofs.Common.{ap, ◌∙◌, ◌++◌}
use Rattle.base_outputs.proofs.OutputLaws.{puts_row}
use Rattle.edit_script.specs.Printing.{texts_of}
use Rattle.script_of_bank.specs.BankEdits.{edits_of_bank}
use Rattle.script_of_bank.specs.BankRemoval.{removal_edits}
use Rattle.script_of_bank.proofs.TextLaws.{both_texts}
use Rattle.script_of_bank.proofs.UndoListLaws.{accepted_back}
use Rattle.script_of_bank.proofs.replacement.ReplacementText.put.Goals as goal

pub returns : goal.returns
returns g c =
    let a = c.args.self.now.from.now in
    let b = c.args.self.now.to.now in
    puts_row _ (texts_of (removal_edits a)) (texts_of (edits_of_bank b))
    (ap (λ es. texts_of (es ++ edits_of_bank b)) (accepted_back a c.put_removal_edits.ensures.engine)
    ∙ both_texts (removal_edits a) (edits_of_bank b))
    c.put_removal_edits.ensures.puts c.put_parts.ensures
