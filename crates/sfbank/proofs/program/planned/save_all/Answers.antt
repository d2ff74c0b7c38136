use Rattle.std.proofs.Common.{◌≡◌, List, Err, ap, not, refl, subst, sym}
use Rattle.bank_parts.specs.declared.parts.Parts.{Parts}
use Rattle.bank_format.specs.Reading.{Content}
use Rattle.edit_forms.specs.declared.edit.Edit.{Edit}
use Rattle.sfbank.specs.EditTexts.{edits_text}
use Rattle.sfbank.specs.Outputs.{SavesAt}
use Rattle.sfbank.specs.Outcome.{bank_in, both_texts}
use Rattle.sfbank.proofs.PlannedEdits.{planned}
use Rattle.sfbank.proofs.FoundEdits.{is_planned, is_script}
use Rattle.sfbank.proofs.SavedScripts.{all_ends, script_fails}
use Rattle.sfbank.proofs.program.planned.save_all.Goals as goal

pub returns-in-Ok : goal.returns-in-Ok
unfolding is_planned planned
returns-in-Ok g c purpose file printed promised read =
    let p = c.args.paths in
    let edits = c.args.edits.items in
    let done = both_texts c.args.bank edits in
    let same : c.args.bank ≡ bank_in file = sym (ap (λ (x : Content). x.bank) read.1.1) in
    all_ends (g.H.Host.world c.args.host.now) (g.H.Host.world c.save_script.new.host) _ c.args.script.now p.out.now
    p.undo.now (not p.no_comments) purpose file done
    (is_planned purpose file c.args.bank edits done read promised c.requires refl) printed _
    c.save_edited.result (rw (c.as_slice.ensures.value, same) at c.in-Ok.ensures) c.save_edited.ensures

pub returns : goal.returns
returns g c purpose file printed promised read =
    let p = c.args.paths in
    let edits = c.args.edits.items in
    let comments = not p.no_comments in
    script_fails (g.H.Host.world c.args.host.now) (g.H.Host.world c.save_script.new.host) c.args.script.now p.out.now
    p.undo.now comments purpose file (edits_text comments c.args.bank edits) printed
    (g.H.Host.written c.save_script.new.host) c.in-Err.fault
    (is_script comments purpose file c.args.bank edits read promised c.requires)
    (subst (λ (es : List Edit). SavesAt {U = Unit {0}} c.args.script.now (edits_text comments c.args.bank es)
    (g.H.Host.world c.args.host.now) (g.H.Host.world c.save_script.new.host) (g.H.Host.written c.save_script.new.host)
    (Err c.in-Err.fault)) c.as_slice.ensures.value c.in-Err.ensures)
