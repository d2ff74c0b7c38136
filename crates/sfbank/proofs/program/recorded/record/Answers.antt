use Rattle.sfbank.specs.Recordings.{change_of, recording_outcome}
use Rattle.sfbank.specs.PlanParts.{with_both}
use Rattle.sfbank.specs.Steps.{edit_part}
use Rattle.sfbank.proofs.PlanLaws.{after_two, checks_fail, two_go_on, two_fail}
use Rattle.sfbank.proofs.program.recorded.record.Goals as goal

pub returns-in-Ok-read_two : goal.returns-in-Ok-read_two
returns-in-Ok-read_two g c request printed does =
    let work = c.args.work in
    let p = work.paths in
    two_go_on request (edit_part p) (λ w a b. with_both p.out.now p.undo.now (recording_outcome (change_of work.destination) work.options a b)) p.input.now p.other.now _
    (g.H.Host.world c.reject_outputs.new.host) _ _ _ _ c.save_recorded.result tt c.in-Ok-read_two.file.items
    c.in-Ok-read_two.wave.items does.plans does.inputs c.in-Ok.ensures c.in-Ok-read_two.ensures
    (rw (c.as_slice.ensures.value, c.as_mut_slice.ensures.value) at (c.save_recorded.ensures printed))

pub returns-in-Err-read_two : goal.returns-in-Err-read_two
returns-in-Err-read_two g c request printed does =
    let work = c.args.work in
    let p = work.paths in
    two_fail request (edit_part p) (λ w a b. with_both p.out.now p.undo.now (recording_outcome (change_of work.destination) work.options a b)) p.input.now p.other.now _
    (g.H.Host.world c.reject_outputs.new.host) _ _ _ c.in-Err-read_two.fault tt does.plans does.inputs c.in-Ok.ensures
    c.in-Err-read_two.ensures

pub returns-in-Err : goal.returns-in-Err
returns-in-Err g c request printed does =
    let work = c.args.work in
    let p = work.paths in
    checks_fail request (edit_part p) (after_two p.input.now p.other.now (λ w a b. with_both p.out.now p.undo.now (recording_outcome (change_of work.destination) work.options a b))) p.input.now p.other.now _ _ _ _
    c.in-Err.fault does.plans does.inputs c.in-Err.ensures
