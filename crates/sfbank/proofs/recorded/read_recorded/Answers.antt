use Rattle.std.proofs.lemmas.Result.{err_from_is_err_and}
use Rattle.sfbank.proofs.Recordings.{no_recording}
use Rattle.sfbank.proofs.CommandLaws.{recording_fails}
use Rattle.sfbank.proofs.recorded.read_recorded.Goals as goal

pub returns-in_err-recording-in-Ok : goal.returns-in_err-recording-in-Ok
returns-in_err-recording-in-Ok c =
    let p = err_from_is_err_and c.from_residual.result c.from_residual.ensures.1 in
    rw (p.1, p.2)
    (λ change. no_recording change c.args.options c.args.file.now c.args.wave.now c.in-Ok.bank c.in-Ok._counts
    c.in_err-recording-in-Ok.field-0.0 c.in-Ok.ensures c.in_err-recording-in-Ok.ensures)

pub returns-in-Err : goal.returns-in-Err
returns-in-Err c change =
    recording_fails (λ both. both) change c.args.options c.in-Err.fault c.args.file.now c.args.wave.now c.in-Err.ensures
