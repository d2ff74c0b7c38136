use Rattle.std.proofs.Common.{Ok, string_bytes}
use Rattle.file_disk.proofs.CrashLaws.{by_flag, goes_on, if_same, known_map, known_of, known_same, since_any}
use Rattle.file_disk.proofs.CrashLaws.{since_as, target_too}
use Rattle.file_disk.proofs.CrashSaveLaws.{text_kept, text_lost, text_moved, text_none}
use Rattle.file_disk.proofs.KeepLaws.{new_failed}
use Rattle.file_disk.proofs.SaveLaws.{replaced}
use Rattle.file_disk.specs.Crashes.{FromKnown, KeepsFiles, LeavesText}
use Rattle.file_disk.proofs.saving.replace.Goals as goal

pub returns-in-Ok-put_in_place-clause-saved : goal.returns-in-Ok-put_in_place-clause-saved
returns-in-Ok-put_in_place-clause-saved g c =
    let made = rw c.in-Ok.is at c.prepare-device.ensures.made in
    replaced _ _ _ _ _ _ made (rw c.as_str.ensures.value at c.in-Ok-put_in_place.ensures.moved)

pub returns-in-Err-put_in_place-clause-failed : goal.returns-in-Err-put_in_place-clause-failed
returns-in-Err-put_in_place-clause-failed g c =
    let made = rw c.in-Ok.is at c.prepare-device.ensures.made in
    let lost = rw (c.as_str-in-Err-put_in_place.ensures.value, c.in-Err-put_in_place.ensures.stays) at c.remove.ensures.lost in
    new_failed _ (g.D.Device.world c.prepare-device.result.0) _ _ (Ok (g.T.Text.bytes c.args.text.now)) made.free made.named
    made.world lost

pub returns-in-Ok-put_in_place-clause-crash : goal.returns-in-Ok-put_in_place-clause-crash
returns-in-Ok-put_in_place-clause-crash g c =
    let base = g.D.Device.durable c.args.device in
    let made = g.D.Device.durable c.prepare-device.result.0 in
    let path = string_bytes c.args.file.now.path in
    let text = g.T.Text.bytes c.args.text.now in
    let P = FromKnown (LeavesText path text) base in
    let prepared = c.prepare-device.ensures in
    let synced = rw c.in-Ok.is at prepared.synced in
    by_flag c.args.file.now.is_there
    (λ there.
    goes_on _ _ (g.D.Device.past c.put_in_place.new.device) P made (g.D.Device.durable c.put_in_place.new.device)
    (since_as _ _ (FromKnown KeepsFiles base) P (text_kept path text base) prepared.crash.crash)
    (known_map (FromKnown KeepsFiles base) P made (text_kept path text base) (known_of KeepsFiles base made prepared.crash.left))
    (text_moved _ path text base made _ prepared.crash.left (synced there)
    (rw c.as_str.ensures.value at c.in-Ok-put_in_place.ensures.left))
    c.in-Ok-put_in_place.ensures.crash)
    (λ none. since_any _ _ P (text_none text base c.args.file.now
    (target_too _ _ c.args.file.now (g.D.Device.agrees c.args.device) c.requires) none))

pub returns-in-Err-put_in_place-clause-crash : goal.returns-in-Err-put_in_place-clause-crash
returns-in-Err-put_in_place-clause-crash g c =
    let base = g.D.Device.durable c.args.device in
    let made = g.D.Device.durable c.prepare-device.result.0 in
    let still = g.D.Device.durable c.put_in_place.new.device in
    let path = string_bytes c.args.file.now.path in
    let text = g.T.Text.bytes c.args.text.now in
    let P = FromKnown (LeavesText path text) base in
    let prepared = c.prepare-device.ensures in
    let file = rw c.in-Ok.is at prepared.made in
    let lost = rw c.as_str-in-Err-put_in_place.ensures.value at c.remove.ensures.left in
    let keeps = known_map (FromKnown KeepsFiles base) P made (text_kept path text base) (known_of KeepsFiles base made prepared.crash.left) in
    let same = c.in-Err-put_in_place.ensures.left in
    goes_on _ _ (g.D.Device.past c.remove.new.device) P still (g.D.Device.durable c.remove.new.device)
    (goes_on _ _ _ P made still (since_as _ _ (FromKnown KeepsFiles base) P (text_kept path text base) prepared.crash.crash)
    keeps (known_same P made still same keeps) c.in-Err-put_in_place.ensures.crash)
    (known_same P made still same keeps)
    (text_lost _ text base still _ c.args.file.now
    (target_too _ _ c.args.file.now (g.D.Device.agrees c.args.device) c.requires) file.named
    (if_same KeepsFiles base made still same prepared.crash.left) lost)
    c.remove.ensures.crash
