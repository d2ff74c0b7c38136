use Rattle.std.proofs.Common.{map, ◌∙◌}
use Rattle.sfbank.specs.Prepared.{texts_of_bank}
use Rattle.sfbank.specs.Kits.{Design, bare, kit_outcome, source_of}
use Rattle.sfbank.specs.KitSteps.{entry_of}
use Rattle.sfbank.proofs.KitRuns.{kit_edited}
use Rattle.sfbank.proofs.KitPlans.{kit_saved, kit_stopped}
use Rattle.sfbank.proofs.program.listed.save_sources.Goals as goal

pub returns-in-Ok-apply_kit : goal.returns-in-Ok-apply_kit
returns-in-Ok-apply_kit g c printed =
    let k = c.args.work in
    let design : Design = record { zones = c.args.zones.now; members = c.args.members } in
    let sources = map source_of c.args.sources.items in
    let same =
    kit_edited design k.options sources c.args.file.now c.in-Ok.bank c.in-Ok.ensures.0.0 (map bare c.in-Ok.recordings.items)
    c.in-Ok.ensures.0.1 c.in-Ok.ensures.1 in
    kit_saved _ _ printed _ k (map entry_of c.args.entries.now) (kit_outcome design k.options sources c.args.file.now)
    (texts_of_bank c.in-Ok-apply_kit.edited_bank) c.save_both.result (same ∙ c.in-Ok-apply_kit.ensures) c.save_both.ensures

pub returns-in-Ok : goal.returns-in-Ok
returns-in-Ok g c printed =
    let k = c.args.work in
    let design : Design = record { zones = c.args.zones.now; members = c.args.members } in
    let sources = map source_of c.args.sources.items in
    let same =
    kit_edited design k.options sources c.args.file.now c.in-Ok.bank c.in-Ok.ensures.0.0 (map bare c.in-Ok.recordings.items)
    c.in-Ok.ensures.0.1 c.in-Ok.ensures.1 in
    kit_stopped _ printed _ k (map entry_of c.args.entries.now) (kit_outcome design k.options sources c.args.file.now)
    c.in-Err-apply_kit.fault c.fault_of_recorded.result (rw same c.in-Err-apply_kit.ensures) c.fault_of_recorded.ensures

pub returns : goal.returns
returns g c printed =
    let k = c.args.work in
    let design : Design = record { zones = c.args.zones.now; members = c.args.members } in
    let sources = map source_of c.args.sources.items in
    kit_stopped _ printed _ k (map entry_of c.args.entries.now) (kit_outcome design k.options sources c.args.file.now)
    c.in-Err.fault c.fault_of_recorded-in-Err.result (c.in-Err.ensures design) c.fault_of_recorded-in-Err.ensures
