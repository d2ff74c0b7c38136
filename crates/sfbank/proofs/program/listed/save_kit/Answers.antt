use Rattle.std.proofs.Common.{map, refl}
use Rattle.program_reports.specs.declared.run_fault.RunFault.TheVariants as run
use Rattle.sfbank.specs.Kits.{kit_outcome}
use Rattle.sfbank.specs.KitSteps.{entry_of, file_of, source_read}
use Rattle.sfbank.proofs.KitPlans.{kit_stopped}
use Rattle.sfbank.proofs.program.listed.save_kit.Goals as goal

pub returns-in-Ok : goal.returns-in-Ok
returns-in-Ok g c printed =
    rw c.in-Ok.ensures at (c.save_sources.ensures printed)

pub returns-in-Err : goal.returns-in-Err
returns-in-Err g c printed =
    kit_stopped _ printed _ c.args.work (map entry_of c.args.entries.now)
    (kit_outcome (record { zones = c.args.zones.now; members = c.args.members }) c.args.work.options
    (map source_read (map file_of c.args.files.now)) c.args.file.now) run.Memory _ tt refl
