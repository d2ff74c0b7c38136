use Rattle.std.proofs.Common.{◌∙◌}
use Rattle.sfbank.specs.Prepared.{texts_of_bank}
use Rattle.sfbank.specs.Recordings.{change_of, recording_outcome}
use Rattle.sfbank.proofs.Endings.{ends_early, ends_with}
use Rattle.sfbank.proofs.Recordings.{recording_edited}
use Rattle.sfbank.proofs.recorded.record.Goals as goal

pub returns-in-Ok-apply_recording : goal.returns-in-Ok-apply_recording
returns-in-Ok-apply_recording g c =
    let change = change_of c.args.destination in
    let same =
    recording_edited change c.args.options c.args.file.now c.args.wave.now c.in-Ok.bank c.in-Ok.ensures.0.0
    c.in-Ok.recording c.in-Ok.ensures.0.1 c.in-Ok.ensures.1 in
    ends_with _ (recording_outcome change c.args.options c.args.file.now c.args.wave.now)
    (texts_of_bank c.in-Ok-apply_recording.edited_bank) c.write_edited.result (same ∙ c.in-Ok-apply_recording.ensures)
    c.write_edited.ensures

pub returns-in-Ok : goal.returns-in-Ok
returns-in-Ok g c =
    let change = change_of c.args.destination in
    let same =
    recording_edited change c.args.options c.args.file.now c.args.wave.now c.in-Ok.bank c.in-Ok.ensures.0.0
    c.in-Ok.recording c.in-Ok.ensures.0.1 c.in-Ok.ensures.1 in
    ends_early (Unit {0}) (g.W.Write.contents c.args.out.now) (g.V.Write.contents c.args.undo.now)
    (recording_outcome change c.args.options c.args.file.now c.args.wave.now) c.in-Err-apply_recording.fault
    (rw same c.in-Err-apply_recording.ensures)

pub returns : goal.returns
returns g c =
    let change = change_of c.args.destination in
    ends_early (Unit {0}) (g.W.Write.contents c.args.out.now) (g.V.Write.contents c.args.undo.now)
    (recording_outcome change c.args.options c.args.file.now c.args.wave.now) c.in-Err.fault (c.in-Err.ensures change)
