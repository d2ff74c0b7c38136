use Rattle.std.proofs.Common.{arith}
use Rattle.sfbank.proofs.Restores.{are_bytes}
use Rattle.sfbank.proofs.Recordings.{in_place_fits, replace_keeps, scripted, recording_restores}
use Rattle.sfbank.specs.Recordings.{put_in_place}
use Rattle.sfbank.proofs.recorded.replace_run.Goals as goal

pub returns-clause-keeps : goal.returns-clause-keeps
returns-clause-keeps g c = replace_keeps c.args.options c.args.sample c.args.file.now c.args.wave.now

pub returns-clause-script : goal.returns-clause-script
returns-clause-script g c =
    let file = c.args.file.now in
    let wave = c.args.wave.now in
    scripted (put_in_place c.args.sample) c.args.options file wave (in_place_fits c.args.sample (omega arith))
    c.key_fits.ensures (are_bytes file c.type_inv.file) (are_bytes wave c.type_inv.wave)

pub returns-clause-restores : goal.returns-clause-restores
returns-clause-restores g c =
    let file = c.args.file.now in
    let wave = c.args.wave.now in
    recording_restores (put_in_place c.args.sample) c.args.options file wave
    (in_place_fits c.args.sample (omega arith))
    c.key_fits.ensures (are_bytes file c.type_inv.file) (are_bytes wave c.type_inv.wave)
