use Rattle.std.proofs.Common.{sym}
use Rattle.sfbank.proofs.Recordings.{no_recording}
use Rattle.sfbank.proofs.CommandLaws.{recording_fails}
use Rattle.sfbank.proofs.recorded.read_recorded_in_place.Goals as goal

pub returns-in-Err-Fault : goal.returns-in-Err-Fault
returns-in-Err-Fault c change =
    rw c.in-Err-Fault.fault-is
    (no_recording change c.args.options c.args.file.now c.args.wave.now c.in-Ok.bank c.in-Ok._counts
    c.in-Err-Fault.fault c.in-Ok.ensures (sym (rw c.in-Err-Fault.field-0-is at c.in-Err-Fault.ensures)))

pub returns : goal.returns
returns c change =
    recording_fails (λ both. both) change c.args.options c.in-Err.fault c.args.file.now c.args.wave.now c.in-Err.ensures
