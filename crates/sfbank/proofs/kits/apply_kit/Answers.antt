use Rattle.std.proofs.Common.{◌∙◌, ap}
use Rattle.std.specs.Result.{result_map_both}
use Rattle.program_reports.specs.declared.run_fault.RunFault.TheVariants as run
use Rattle.sfbank.specs.Recordings.{after_edits}
use Rattle.sfbank.proofs.KitRuns.{all_split, kit_bare, kit_failed}
use Rattle.sfbank.proofs.kits.apply_kit.Goals as goal

pub kit_edits-requires : goal.kit_edits-requires
kit_edits-requires c = record { split = all_split c.args.recordings.items c.args.sides.now c.requires }

pub returns-in-Ok : goal.returns-in-Ok
returns-in-Ok c =
    rw (ap (λ edits. after_edits c.args.bank (result_map_both (λ es. es) run.Presets edits))
    (kit_bare c.args.bank c.args.recordings.items c.args.zones.now c.args.members ∙ c.in-Ok.ensures)) c.apply_numbered.ensures

pub returns : goal.returns
returns c =
    rw c.refused.ensures
    (kit_failed (record { zones = c.args.zones.now; members = c.args.members }) c.args.bank c.args.recordings.items
    c.in-Err.failure c.in-Err.ensures)
