use Rattle.std.proofs.Common.{ap}
use Rattle.std.specs.Prelude.{codes}
use Rattle.base_outputs.proofs.OutputLaws.{puts_as, puts_then}
use Rattle.script_steps.specs.Instruments.{name_operands}
use Rattle.script_steps.specs.Presets.{head_operands}
use Rattle.edit_script.specs.Printing.{texts_of}
use Rattle.script_of_bank.specs.BankEdits.{in_turn, link_edits}
use Rattle.script_of_bank.specs.Lines.{owner_lines}
use Rattle.script_of_bank.specs.BankScript.{selected_edits}
use Rattle.script_of_bank.proofs.TextLaws.{bank_lines}
use Rattle.script_of_bank.proofs.script.put_parts.Goals as goal

pub returns : goal.returns
returns g c =
    let samples =
    puts_as _ _ (ap (λ ss. texts_of (in_turn (selected_edits c.args.points) 0 ss)) c.samples.ensures.value)
    c.put_samples.ensures in
    let links =
    puts_as _ _ (ap (λ ss. texts_of (in_turn link_edits 0 ss)) c.samples-2.ensures.value) c.put_links.ensures in
    let instruments =
    puts_as _ _ (ap (owner_lines (codes "add-inst") name_operands 0) c.instruments.ensures.value)
    c.put_owners.ensures in
    let presets =
    puts_as _ _ (ap (owner_lines (codes "add-preset") head_operands 0) c.presets.ensures.value)
    c.put_owners-2.ensures in
    puts_as _ _ (bank_lines c.args.points c.args.bank.now)
    (puts_then _ _ c.put_texts.ensures
    (puts_then _ _ samples (puts_then _ _ links (puts_then _ _ instruments presets))))
