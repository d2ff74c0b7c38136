use Rattle.std.proofs.Common.{refl}
use Rattle.program_commands.specs.declared.words.Request.TheVariants.{Copy}
use Rattle.sfbank.specs.Purposes.{copying}
use Rattle.sfbank.specs.PlanParts.{undo_apart, with_edits}
use Rattle.sfbank.proofs.PlanLaws.{after_one, checks_fail, one_goes_on, one_fails}
use Rattle.sfbank.proofs.program.copy.copy.Goals as goal

pub returns-in-Ok-read_input : goal.returns-in-Ok-read_input
returns-in-Ok-read_input g c =
    let o = c.args.operands in
    let p = o.paths in
    one_goes_on (Copy o) (λ w rest. undo_apart w p rest)
    (λ w file. with_edits p file (copying file o.member o.name)) p.input.now _
    (g.H.Host.world c.reject_undo_of_plan.new.host) _ _ _ _ c.put_copied.result tt c.in-Ok-read_input.file.items
    (λ w i. refl) (λ w r s others h k. (h, tt, tt)) c.in-Ok.ensures c.in-Ok-read_input.ensures
    (rw c.as_slice.ensures.value at c.put_copied.ensures)

pub returns-in-Err-read_input : goal.returns-in-Err-read_input
returns-in-Err-read_input g c =
    let o = c.args.operands in
    let p = o.paths in
    one_fails (Copy o) (λ w rest. undo_apart w p rest)
    (λ w file. with_edits p file (copying file o.member o.name)) p.input.now _
    (g.H.Host.world c.reject_undo_of_plan.new.host) _ _ _ c.in-Err-read_input.fault tt
    (λ w i. refl) (λ w r s others h k. (h, tt, tt)) c.in-Ok.ensures c.in-Err-read_input.ensures

pub returns-in-Err : goal.returns-in-Err
returns-in-Err g c =
    let o = c.args.operands in
    let p = o.paths in
    checks_fail (Copy o) (λ w rest. undo_apart w p rest)
    (after_one p.input.now (λ w file. with_edits p file (copying file o.member o.name)))
    p.input.now p.input.now _ _ _ _ c.in-Err.fault (λ w i. refl) (λ w r s others h k. (h, tt, tt)) c.in-Err.ensures
