use Rattle.std.proofs.Common.{ap, ◌∙◌, length}
use Rattle.std.specs.Prelude.{codes}
use Rattle.base_outputs.proofs.OutputLaws.{puts_as, puts_then}
use Rattle.edit_script.specs.Printing.{texts_of}
use Rattle.script_of_bank.specs.BankRemoval.{in_reverse, unlink_edits, removal_lines}
use Rattle.script_of_bank.proofs.RemovalLines.{down_lines}
use Rattle.script_of_bank.proofs.replacement.put_removal_edits.Goals as goal

pub returns-clause-engine : goal.returns-clause-engine
returns-clause-engine g c = c.presets.ensures.valid.texts.engine_there

pub returns-clause-puts : goal.returns-clause-puts
returns-clause-puts g c =
    let presets =
    puts_as _ _ (ap (removal_lines (codes "remove-preset")) (c.len.ensures ∙ ap length c.presets.ensures.value))
    c.put_removals.ensures in
    let instruments =
    puts_as _ _
    (ap (removal_lines (codes "remove-inst")) (c.len-2.ensures ∙ ap length c.instruments.ensures.value))
    c.put_removals-2.ensures in
    let links =
    puts_as _ _ (ap (λ ss. texts_of (in_reverse unlink_edits 0 ss)) c.samples.ensures.value)
    c.put_unlinks.ensures in
    let samples =
    puts_as _ _ (ap (removal_lines (codes "remove-sample")) (ap length c.samples-2.ensures.value))
    c.put_removals-3.ensures in
    puts_as _ _ (down_lines c.args.bank.now)
    (puts_then _ _ presets
    (puts_then _ _ instruments (puts_then _ _ links (puts_then _ _ samples c.put_resets.ensures))))
