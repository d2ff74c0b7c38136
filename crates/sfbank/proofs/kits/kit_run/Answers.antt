use Rattle.std.proofs.Common.{map}
use Rattle.sfbank.specs.Kits.{Design, source_of}
use Rattle.sfbank.proofs.KitRuns.{kit_restores, kit_scripted}
use Rattle.sfbank.proofs.Restores.{are_bytes}
use Rattle.sfbank.proofs.kits.kit_run.Goals as goal

pub returns-clause-script : goal.returns-clause-script
returns-clause-script g c =
    let design : Design = record { zones = c.args.zones.now; members = c.args.members } in
    kit_scripted design c.args.options (map source_of c.args.waves.items) c.args.file.now c.key_fits.ensures
    (record { zones = c.zones_fit.ensures; members = c.fitting_members-members.ensures.fits }) c.fitting_waves-waves.ensures.fits
    (are_bytes c.args.file.now c.type_inv.file)

pub returns-clause-restores : goal.returns-clause-restores
returns-clause-restores g c =
    let design : Design = record { zones = c.args.zones.now; members = c.args.members } in
    kit_restores design c.args.options (map source_of c.args.waves.items) c.args.file.now c.key_fits.ensures
    (record { zones = c.zones_fit.ensures; members = c.fitting_members-members.ensures.fits }) c.fitting_waves-waves.ensures.fits
    (are_bytes c.args.file.now c.type_inv.file)
