use Rattle.std.proofs.Common.{ap, refl}
use Rattle.sfbank.specs.Recordings.{after_edits, change_of}
use Rattle.sfbank.proofs.Endings.{fails_through}
use Rattle.sfbank.proofs.recorded.apply_recording.Goals as goal

pub returns-in-Ok : goal.returns-in-Ok
returns-in-Ok c = rw (ap (after_edits c.args.bank) c.in-Ok.ensures) c.apply_numbered.ensures

pub returns : goal.returns
returns c =
    fails_through (after_edits c.args.bank) (λ fault. refl) c.in-Err.fault
    (change_of c.args.destination c.args.bank c.args.recording) c.in-Err.ensures
