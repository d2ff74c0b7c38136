use Rattle.std.proofs.Common.{map}
use Rattle.sfbank.specs.KitSteps.{entry_of, file_of}
use Rattle.sfbank.proofs.KitPlans.{listed_end, listed_rejected, listed_unread}
use Rattle.sfbank.proofs.program.listed.import_listed.Goals as goal

pub returns-in-Ok-read_listed : goal.returns-in-Ok-read_listed
returns-in-Ok-read_listed g c printed =
    listed_end c.args.work c.args.members c.args.file.now
    (record { entries = map entry_of c.args.entries.now; zones = c.args.zones.now })
    (map file_of c.in-Ok-read_listed.files.items) _ (g.H.Host.world c.reject_recordings.new.host) _ printed _ _
    c.save_kit.result tt c.in-Ok.ensures c.in-Ok-read_listed.ensures
    (rw c.as_slice-files.ensures.value at (c.save_kit.ensures printed))

pub returns-in-Err-read_listed : goal.returns-in-Err-read_listed
returns-in-Err-read_listed g c printed =
    listed_unread c.args.work c.args.members c.args.file.now
    (record { entries = map entry_of c.args.entries.now; zones = c.args.zones.now }) _
    (g.H.Host.world c.reject_recordings.new.host) _ printed _ c.in-Err-read_listed.fault tt c.in-Ok.ensures
    c.in-Err-read_listed.ensures

pub returns-in-Err : goal.returns-in-Err
returns-in-Err g c printed =
    listed_rejected c.args.work c.args.members c.args.file.now
    (record { entries = map entry_of c.args.entries.now; zones = c.args.zones.now }) _ _ printed _ c.in-Err.fault
    c.in-Err.ensures
