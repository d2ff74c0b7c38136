use Rattle.sfbank.proofs.Restores.{are_bytes}
use Rattle.sfbank.proofs.Recordings.{appended_fits, scripted, recording_restores}
use Rattle.sfbank.specs.Recordings.{appended}
use Rattle.sfbank.proofs.recorded.import_run.Goals as goal

pub returns-clause-script : goal.returns-clause-script
returns-clause-script g c =
    let file = c.args.file.now in
    let wave = c.args.wave.now in
    let name = c.args.name.now in
    scripted (appended name) c.args.options file wave (appended_fits name (are_bytes name c.type_inv.name))
    c.key_fits.ensures (are_bytes file c.type_inv.file) (are_bytes wave c.type_inv.wave)

pub returns-clause-restores : goal.returns-clause-restores
returns-clause-restores g c =
    let file = c.args.file.now in
    let wave = c.args.wave.now in
    let name = c.args.name.now in
    recording_restores (appended name) c.args.options file wave (appended_fits name (are_bytes name c.type_inv.name))
    c.key_fits.ensures (are_bytes file c.type_inv.file) (are_bytes wave c.type_inv.wave)
