use Rattle.std.proofs.Common.{◌∙◌}
use Rattle.sfbank.specs.Prepared.{texts_of_bank}
use Rattle.sfbank.specs.Recordings.{change_of, recording_outcome}
use Rattle.sfbank.proofs.Recordings.{recording_edited_in_place}
use Rattle.sfbank.proofs.OutcomeLaws.{both_saved, both_fail}
use Rattle.sfbank.proofs.program.recorded.save_recorded.Goals as goal

pub returns-in-Ok-apply_recording : goal.returns-in-Ok-apply_recording
returns-in-Ok-apply_recording g c printed =
    let work = c.args.work in
    let p = work.paths in
    let change = change_of work.destination in
    let same =
    recording_edited_in_place work.destination work.options c.args.file.now c.args.wave.now c.in-Ok.bank c.in-Ok.ensures.0.0
    c.in-Ok.recording c.in-Ok.ensures.0.1 c.in-Ok.ensures.1 in
    both_saved _ _ p.out.now p.undo.now (texts_of_bank c.in-Ok-apply_recording.edited_bank)
    (recording_outcome change work.options c.args.file.now c.args.wave.now) printed _ c.save_both.result
    (same ∙ c.in-Ok-apply_recording.ensures) c.save_both.ensures

pub returns-in-Ok : goal.returns-in-Ok
returns-in-Ok g c printed =
    let work = c.args.work in
    let p = work.paths in
    let change = change_of work.destination in
    let same =
    recording_edited_in_place work.destination work.options c.args.file.now c.args.wave.now c.in-Ok.bank c.in-Ok.ensures.0.0
    c.in-Ok.recording c.in-Ok.ensures.0.1 c.in-Ok.ensures.1 in
    both_fail _ printed _ p.out p.undo.now c.in-Err-apply_recording.fault
    (recording_outcome change work.options c.args.file.now c.args.wave.now)
    (rw same c.in-Err-apply_recording.ensures)

pub returns : goal.returns
returns g c printed =
    let work = c.args.work in
    let p = work.paths in
    let change = change_of work.destination in
    both_fail _ printed _ p.out p.undo.now c.in-Err.fault
    (recording_outcome change work.options c.args.file.now c.args.wave.now) (c.in-Err.ensures change)
