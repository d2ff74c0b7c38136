use Rattle.file_disk.proofs.FrameLaws.{frame_lost, frame_put, frame_same, frame_then}
use Rattle.file_disk.proofs.KeepLaws.{new_left}
use Rattle.file_disk.proofs.CrashLaws.{new_too}
use Rattle.file_disk.proofs.CrashSaveLaws.{frame_synced, writes_call, writes_lost, writes_self, writes_then}
use Rattle.file_disk.proofs.CrashSaveLaws.{written_leaves}
use Rattle.file_disk.proofs.saving.prepare.Goals as goal

pub returns-in-Ok-settle-clause-crash : goal.returns-in-Ok-settle-clause-crash
returns-in-Ok-settle-clause-crash g c =
    let base = g.D.Device.durable c.args.device in
    let before = g.D.Device.past c.args.device in
    let device = c.write_new-device.result.0 in
    let made = writes_call before before _ base base _ _ (writes_self before base _) (frame_put _ _ _ _ c.in-Ok.ensures.left) c.in-Ok.ensures.crash in
    let written = writes_then _ _ _ _ _ _ _ made c.write_new-device.ensures.left c.write_new-device.ensures.crash in
    let settled =
    writes_call _ _ (g.D.Device.past c.settle.new.device) _ _ (g.D.Device.durable c.settle.new.device) _ written
    (frame_synced _ (g.D.Device.world device) (g.D.Device.durable device) _ c.args.is_synced (g.D.Device.output device) _
    (g.D.Device.agrees device) c.write_new-device.ensures.open written.frame c.in-Ok-settle.ensures.left)
    c.in-Ok-settle.ensures.crash in
    written_leaves _ _ _ _ _ (new_too _ _ _ (g.D.Device.agrees c.args.device) c.in-Ok.ensures.free) settled

pub returns-in-Err-settle-clause-crash : goal.returns-in-Err-settle-clause-crash
returns-in-Err-settle-clause-crash g c =
    let base = g.D.Device.durable c.args.device in
    let before = g.D.Device.past c.args.device in
    let device = c.write_new-device.result.0 in
    let made = writes_call before before _ base base _ _ (writes_self before base _) (frame_put _ _ _ _ c.in-Ok.ensures.left) c.in-Ok.ensures.crash in
    let written = writes_then _ _ _ _ _ _ _ made c.write_new-device.ensures.left c.write_new-device.ensures.crash in
    let settled =
    writes_call _ _ (g.D.Device.past c.settle.new.device) _ _ (g.D.Device.durable c.settle.new.device) _ written
    (frame_same _ _ _ _ written.frame c.in-Err-settle.ensures.left) c.in-Err-settle.ensures.crash in
    let lost = rw c.as_str-in-Err-settle.ensures.value at c.remove.ensures.left in
    let removed = writes_lost _ _ (g.D.Device.past c.remove.new.device) _ _ (g.D.Device.durable c.remove.new.device) _ settled lost c.remove.ensures.crash in
    written_leaves _ _ _ _ _ (new_too _ _ _ (g.D.Device.agrees c.args.device) c.in-Ok.ensures.free) removed

pub returns-in-Err-clause-crash : goal.returns-in-Err-clause-crash
returns-in-Err-clause-crash g c =
    let base = g.D.Device.durable c.args.device in
    let before = g.D.Device.past c.args.device in
    let device = c.write_new-device.result.0 in
    let made = writes_call before before _ base base _ _ (writes_self before base _) (frame_put _ _ _ _ c.in-Ok.ensures.left) c.in-Ok.ensures.crash in
    let written = writes_then _ _ _ _ _ _ _ made c.write_new-device.ensures.left c.write_new-device.ensures.crash in
    let lost = rw c.as_str-in-Err.ensures.value at c.remove-in-Err.ensures.left in
    let removed = writes_lost _ _ (g.D.Device.past c.remove-in-Err.new.device) _ _ (g.D.Device.durable c.remove-in-Err.new.device) _ written lost c.remove-in-Err.ensures.crash in
    written_leaves _ _ _ _ _ (new_too _ _ _ (g.D.Device.agrees c.args.device) c.in-Ok.ensures.free) removed

pub returns-in-Err-settle-clause-failed : goal.returns-in-Err-settle-clause-failed
returns-in-Err-settle-clause-failed g c =
    let written = g.D.Device.world c.write_new-device.result.0 in
    let lost = rw (c.as_str-in-Err-settle.ensures.value, c.in-Err-settle.ensures.stays) at c.remove.ensures.lost in
    new_left _ _ _ c.in-Ok.ensures.free c.in-Ok.ensures.named
    (frame_then _ written _ _
    (frame_then _ _ written _ (frame_put _ _ _ _ c.in-Ok.ensures.made) c.write_new-device.ensures.frame)
    (frame_lost written _ _ lost))

pub returns-in-Err-clause-failed : goal.returns-in-Err-clause-failed
returns-in-Err-clause-failed g c =
    let written = g.D.Device.world c.write_new-device.result.0 in
    let lost = rw c.as_str-in-Err.ensures.value at c.remove-in-Err.ensures.lost in
    new_left _ _ _ c.in-Ok.ensures.free c.in-Ok.ensures.named
    (frame_then _ written _ _
    (frame_then _ _ written _ (frame_put _ _ _ _ c.in-Ok.ensures.made) c.write_new-device.ensures.frame)
    (frame_lost written _ _ lost))
