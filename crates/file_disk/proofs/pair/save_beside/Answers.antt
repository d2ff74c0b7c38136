use Rattle.file_disk.proofs.SaveLaws.{target_of, pair_failed}
use Rattle.std.proofs.Common.{string_bytes}
use Rattle.file_disk.proofs.CrashLaws.{known_same, passes_as, since_as, since_then}
use Rattle.file_disk.proofs.CrashPairLaws.{pair_by, pair_self}
use Rattle.file_disk.specs.Crashes.{FromKnown, LeavesPair}
use Rattle.file_disk.proofs.pair.save_beside.Goals as goal

pub save_files-requires-clause-text : goal.save_files-requires-clause-text
save_files-requires-clause-text g c =
    let leads = rw c.in-Ok-Stores.field-0-is at c.in-Ok-Stores.ensures.target in
    rw c.in-Ok-Stores.ensures.stays (target_of _ _ c.in-Ok-Stores.file leads)

pub returns-in-Ok-Stores-clause-failed : goal.returns-in-Ok-Stores-clause-failed
returns-in-Ok-Stores-clause-failed g c =
    let leads = rw c.in-Ok-Stores.field-0-is at c.in-Ok-Stores.ensures.target in
    let failed = rw c.in-Ok-Stores.ensures.stays at c.save_files.ensures.failed in
    pair_failed _ _ _ _ _ _ c.args.undo_file.now c.in-Ok-Stores.file c.save_files.result.1 c.requires leads failed

pub returns-in-Ok-Stores-clause-crash : goal.returns-in-Ok-Stores-clause-crash
returns-in-Ok-Stores-clause-crash g c =
    let base = g.D.Device.durable c.args.device in
    let undo_path = c.args.undo_path.now in
    let undo = g.U.Text.bytes c.args.undo.now in
    let path = c.args.path.now in
    let text = g.T.Text.bytes c.args.text.now in
    let file = c.in-Ok-Stores.file in
    let P = FromKnown (LeavesPair undo_path undo path text) base in
    let resolved = c.in-Ok-Stores.ensures in
    let leads = rw c.in-Ok-Stores.field-0-is at resolved.target in
    let saved = rw resolved.left at c.save_files.ensures.crash in
    let at_first = pair_self undo_path undo path text base in
    since_then _ _ (g.D.Device.past c.save_files.result.0) P
    (passes_as _ _ P base (g.D.Device.durable c.resolve.new.self) at_first (known_same P base _ resolved.left at_first)
    resolved.crash)
    (since_as _ _ (FromKnown (LeavesPair (string_bytes c.args.undo_file.now.path) undo (string_bytes file.path) text) base) P
    (pair_by _ base undo_path undo path text c.args.undo_file.now file (g.D.Device.agrees c.args.device) c.requires leads)
    saved)

pub save_files-requires-clause-undo : goal.save_files-requires-clause-undo
save_files-requires-clause-undo g c =
    rw c.in-Ok-Stores.ensures.stays (target_of _ _ c.args.undo_file.now c.requires)
