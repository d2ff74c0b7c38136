use Rattle.std.proofs.Common.{refl}
use Rattle.program_commands.specs.declared.words.Request.TheVariants.{Apply}
use Rattle.sfbank.specs.EditRuns.{outcome_of}
use Rattle.sfbank.specs.PlanParts.{with_both}
use Rattle.sfbank.specs.Steps.{edit_part}
use Rattle.sfbank.proofs.PlanLaws.{after_two, checks_fail, two_go_on, two_fail}
use Rattle.sfbank.proofs.program.apply.apply.Goals as goal

pub returns-in-Ok-read_two : goal.returns-in-Ok-read_two
returns-in-Ok-read_two g c printed =
    let p = c.args.paths in
    two_go_on (Apply p) (edit_part (record { input = p.input; other = p.script; out = p.out; undo = p.undo; force = p.force })) (λ w a b. with_both p.out.now p.undo.now (outcome_of p.forms a b)) p.input.now p.script.now _
    (g.H.Host.world c.reject_outputs.new.host) _ _ _ _ c.save_edited.result tt c.in-Ok-read_two.file.items
    c.in-Ok-read_two.script.items (λ w i. refl) (λ w r s others h k. (h, k, tt)) c.in-Ok.ensures c.in-Ok-read_two.ensures
    (rw (c.as_slice.ensures.value, c.as_slice-in-Ok-read_two.ensures.value) at (c.save_edited.ensures printed))

pub returns-in-Err-read_two : goal.returns-in-Err-read_two
returns-in-Err-read_two g c printed =
    let p = c.args.paths in
    two_fail (Apply p) (edit_part (record { input = p.input; other = p.script; out = p.out; undo = p.undo; force = p.force })) (λ w a b. with_both p.out.now p.undo.now (outcome_of p.forms a b)) p.input.now p.script.now _
    (g.H.Host.world c.reject_outputs.new.host) _ _ _ c.in-Err-read_two.fault tt (λ w i. refl) (λ w r s others h k. (h, k, tt)) c.in-Ok.ensures
    c.in-Err-read_two.ensures

pub returns-in-Err : goal.returns-in-Err
returns-in-Err g c printed =
    let p = c.args.paths in
    checks_fail (Apply p) (edit_part (record { input = p.input; other = p.script; out = p.out; undo = p.undo; force = p.force })) (after_two p.input.now p.script.now (λ w a b. with_both p.out.now p.undo.now (outcome_of p.forms a b))) p.input.now p.script.now _ _ _ _
    c.in-Err.fault (λ w i. refl) (λ w r s others h k. (h, k, tt)) c.in-Err.ensures
