use Rattle.std.proofs.Common.{◌∙◌}
use Rattle.sfbank.specs.EditRuns.{outcome_of}
use Rattle.sfbank.specs.Prepared.{texts_of_bank}
use Rattle.sfbank.proofs.Faults.{at_bank}
use Rattle.sfbank.proofs.OutcomeLaws.{both_saved, both_fail}
use Rattle.sfbank.proofs.program.apply.save_edited.Goals as goal

pub apply_script-requires : goal.apply_script-requires
apply_script-requires g c = record { pool = rw c.as_slice.ensures.value c.in-Ok.ensures.1 }

pub returns-in-Ok-apply_script : goal.returns-in-Ok-apply_script
returns-in-Ok-apply_script g c printed =
    let p = c.args.paths in
    let file = c.args.file.now in
    let script = c.args.script.now in
    let same = at_bank p.forms file script c.in-Ok.bank c.in-Ok.ensures.0.0 c.in-Ok.ensures.0.1 in
    both_saved _ _ p.out.now p.undo.now (texts_of_bank c.in-Ok-apply_script.edited_bank) (outcome_of p.forms file script)
    printed _ c.save_both-saved.result (same ∙ c.in-Ok-apply_script.ensures.prepared) c.save_both-saved.ensures

pub returns-in-Ok : goal.returns-in-Ok
returns-in-Ok g c printed =
    let p = c.args.paths in
    let file = c.args.file.now in
    let script = c.args.script.now in
    let same = at_bank p.forms file script c.in-Ok.bank c.in-Ok.ensures.0.0 c.in-Ok.ensures.0.1 in
    both_fail _ printed _ p.out p.undo.now c.in-Err-apply_script.fault (outcome_of p.forms file script)
    (rw same c.in-Err-apply_script.ensures.prepared)

pub returns : goal.returns
returns g c printed =
    let p = c.args.paths in
    both_fail _ printed _ p.out p.undo.now c.in-Err.fault (outcome_of p.forms c.args.file.now c.args.script.now)
    (c.in-Err.ensures p.forms)
