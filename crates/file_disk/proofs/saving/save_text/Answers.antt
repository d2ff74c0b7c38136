use Rattle.std.proofs.Common.{string_bytes}
use Rattle.file_disk.proofs.CrashLaws.{known_same, passes_as, since_as, since_then}
use Rattle.file_disk.proofs.CrashSaveLaws.{text_by, text_self}
use Rattle.file_disk.proofs.SaveLaws.{target_of}
use Rattle.file_disk.specs.Crashes.{FromKnown, LeavesText}
use Rattle.file_disk.proofs.saving.save_text.Goals as goal

pub returns-in-Ok-clause-crash : goal.returns-in-Ok-clause-crash
returns-in-Ok-clause-crash g c =
    let base = g.D.Device.durable c.args.device in
    let path = c.args.path.now in
    let file = c.in-Ok-Stores.file in
    let text = g.T.Text.bytes c.args.text.now in
    let P = FromKnown (LeavesText path text) base in
    let resolved = c.in-Ok-Stores.ensures in
    let leads = rw c.in-Ok-Stores.field-0-is at resolved.target in
    let replaced = rw resolved.left at c.replace.ensures.crash in
    since_then _ _ (g.D.Device.past c.replace.result.0) P
    (passes_as _ _ P base (g.D.Device.durable c.resolve.new.self) (text_self path text base)
    (known_same P base _ resolved.left (text_self path text base)) resolved.crash)
    (since_as _ _ (FromKnown (LeavesText (string_bytes file.path) text) base) P
    (text_by _ base path text file (g.D.Device.agrees c.args.device) leads) replaced)

pub replace-requires : goal.replace-requires
replace-requires g c =
    let leads = rw c.in-Ok-Stores.field-0-is at c.in-Ok-Stores.ensures.target in
    rw c.in-Ok-Stores.ensures.stays (target_of _ _ c.in-Ok-Stores.file leads)
