use Rattle.std.proofs.Common.{◌∙◌, ap, refl}
use Rattle.sfbank.specs.EditRuns.{outcome_of}
use Rattle.sfbank.specs.PlanParts.{Text, without_undo}
use Rattle.sfbank.proofs.Faults.{at_bank}
use Rattle.sfbank.proofs.OutcomeLaws.{only_fails, text_put}
use Rattle.sfbank.proofs.program.apply.put_edited.Goals as goal

pub apply_script-requires : goal.apply_script-requires
apply_script-requires g c = record { pool = rw c.as_slice.ensures.value c.in-Ok.ensures.1 }

pub returns-in-Ok-apply_script : goal.returns-in-Ok-apply_script
returns-in-Ok-apply_script g c =
    let p = c.args.paths in
    let file = c.args.file.now in
    let script = c.args.script.now in
    let same = at_bank p.forms file script c.in-Ok.bank c.in-Ok.ensures.0.0 c.in-Ok.ensures.0.1 in
    text_put p.out.now _ (without_undo (outcome_of p.forms file script)) _ _ _ c.put-ended.result
    (ap without_undo (same ∙ c.in-Ok-apply_script.ensures.prepared)) (c.put-ended.ensures (Text _) refl)

pub returns-in-Ok : goal.returns-in-Ok
returns-in-Ok g c =
    let p = c.args.paths in
    let file = c.args.file.now in
    let script = c.args.script.now in
    let same = at_bank p.forms file script c.in-Ok.bank c.in-Ok.ensures.0.0 c.in-Ok.ensures.0.1 in
    only_fails _ _ _ p.out c.in-Err-apply_script.fault (outcome_of p.forms file script)
    (rw same c.in-Err-apply_script.ensures.prepared)

pub returns : goal.returns
returns g c =
    let p = c.args.paths in
    only_fails _ _ _ p.out c.in-Err.fault (outcome_of p.forms c.args.file.now c.args.script.now) (c.in-Err.ensures p.forms)
