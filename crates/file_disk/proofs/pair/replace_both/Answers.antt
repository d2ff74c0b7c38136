use Rattle.file_disk.proofs.SaveLaws.{target_after, second_failed, both_in_place, both_spoiled}
use Rattle.file_disk.proofs.CrashLaws.{target_too}
use Rattle.file_disk.proofs.CrashPairLaws.{pair_done, second_lost}
use Rattle.file_disk.proofs.pair.replace_both.Goals as goal

pub returns-in-Err-answer-clause-failed : goal.returns-in-Err-answer-clause-failed
returns-in-Err-answer-clause-failed g c =
    let made = rw c.in-Ok.is at c.prepare-device.ensures.made in
    let failed = rw c.in-Err-answer.is at c.prepare-device-2.ensures.failed in
    let lost = rw c.as_str.ensures.value at c.remove.ensures.lost in
    second_failed _ (g.D.Device.world c.prepare-device.result.0) (g.D.Device.world c.prepare-device-2.result.0) _
    c.args.undo_file.now c.args.file.now _ _ _ c.requires.undo c.requires.text made failed lost

pub put_both-requires-clause-undo : goal.put_both-requires-clause-undo
put_both-requires-clause-undo g c =
    let made = rw c.in-Ok.is at c.prepare-device.ensures.made in
    let also = rw c.in-Ok-answer.is at c.prepare-device-2.ensures.made in
    target_after _ _ _ _ c.args.undo_file.now also (target_after _ _ _ _ c.args.undo_file.now made c.requires.undo)

pub put_both-requires-clause-text : goal.put_both-requires-clause-text
put_both-requires-clause-text g c =
    let made = rw c.in-Ok.is at c.prepare-device.ensures.made in
    let also = rw c.in-Ok-answer.is at c.prepare-device-2.ensures.made in
    target_after _ _ _ _ c.args.file.now also (target_after _ _ _ _ c.args.file.now made c.requires.text)

pub returns-in-Err-Undo-clause-failed : goal.returns-in-Err-Undo-clause-failed
returns-in-Err-Undo-clause-failed g c =
    let made = rw c.in-Ok.is at c.prepare-device.ensures.made in
    let also = rw c.in-Ok-answer.is at c.prepare-device-2.ensures.made in
    both_spoiled _ (g.D.Device.world c.prepare-device.result.0) (g.D.Device.world c.prepare-device-2.result.0) _
    c.args.undo_file.now c.args.file.now _ _ _ _ c.requires.undo c.requires.text made also c.in-Err-Undo.ensures.failed

pub returns-in-Err-Out-clause-failed : goal.returns-in-Err-Out-clause-failed
returns-in-Err-Out-clause-failed g c =
    let made = rw c.in-Ok.is at c.prepare-device.ensures.made in
    let also = rw c.in-Ok-answer.is at c.prepare-device-2.ensures.made in
    both_spoiled _ (g.D.Device.world c.prepare-device.result.0) (g.D.Device.world c.prepare-device-2.result.0) _
    c.args.undo_file.now c.args.file.now _ _ _ _ c.requires.undo c.requires.text made also c.in-Err-Out.ensures.failed

pub returns-in-Ok-put_both-clause-saved : goal.returns-in-Ok-put_both-clause-saved
returns-in-Ok-put_both-clause-saved g c =
    let made = rw c.in-Ok.is at c.prepare-device.ensures.made in
    let also = rw c.in-Ok-answer.is at c.prepare-device-2.ensures.made in
    both_in_place _ (g.D.Device.world c.prepare-device.result.0) (g.D.Device.world c.prepare-device-2.result.0) _
    c.args.undo_file.now c.args.file.now _ _ _ _ c.requires.undo c.requires.text made also c.in-Ok-put_both.ensures.put

pub returns-in-Err-answer-clause-crash : goal.returns-in-Err-answer-clause-crash
returns-in-Err-answer-clause-crash g c =
    let base = g.D.Device.durable c.args.device in
    let one = c.prepare-device.result.0 in
    let two = c.prepare-device-2.result.0 in
    let made = rw c.in-Ok.is at c.prepare-device.ensures.made in
    let target = target_too _ base c.args.file.now (g.D.Device.agrees c.args.device) c.requires.text in
    let lost = rw c.as_str.ensures.value at c.remove.ensures.left in
    second_lost (g.D.Device.past c.args.device) (g.D.Device.past one) (g.D.Device.past two) (g.D.Device.past c.remove.new.device)
    base (g.D.Device.durable one) (g.D.Device.durable two) (g.D.Device.durable c.remove.new.device) _ _ _ _ c.args.file.now
    target made.named c.prepare-device.ensures.crash c.prepare-device-2.ensures.crash lost c.remove.ensures.crash

pub returns-in-Ok-put_both-clause-crash : goal.returns-in-Ok-put_both-clause-crash
returns-in-Ok-put_both-clause-crash g c =
    let base = g.D.Device.durable c.args.device in
    let one = c.prepare-device.result.0 in
    let two = c.prepare-device-2.result.0 in
    let undo_synced = rw c.in-Ok.is at c.prepare-device.ensures.synced in
    let text_synced = rw c.in-Ok-answer.is at c.prepare-device-2.ensures.synced in
    let target = target_too _ base c.args.file.now (g.D.Device.agrees c.args.device) c.requires.text in
    pair_done (g.D.Device.past c.args.device) (g.D.Device.past one) (g.D.Device.past two) (g.D.Device.past c.put_both.new.device)
    base (g.D.Device.durable one) (g.D.Device.durable two) _ _ _ _ _ c.args.file.now c.is_replacing-is_synced.result
    target c.is_replacing-is_synced.ensures.text c.prepare-device.ensures.crash undo_synced c.prepare-device-2.ensures.crash
    text_synced c.put_both.ensures.crash

pub returns-in-Err-Undo-clause-crash : goal.returns-in-Err-Undo-clause-crash
returns-in-Err-Undo-clause-crash g c =
    let base = g.D.Device.durable c.args.device in
    let one = c.prepare-device.result.0 in
    let two = c.prepare-device-2.result.0 in
    let undo_synced = rw c.in-Ok.is at c.prepare-device.ensures.synced in
    let text_synced = rw c.in-Ok-answer.is at c.prepare-device-2.ensures.synced in
    let target = target_too _ base c.args.file.now (g.D.Device.agrees c.args.device) c.requires.text in
    pair_done (g.D.Device.past c.args.device) (g.D.Device.past one) (g.D.Device.past two) (g.D.Device.past c.put_both.new.device)
    base (g.D.Device.durable one) (g.D.Device.durable two) _ _ _ _ _ c.args.file.now c.is_replacing-is_synced.result
    target c.is_replacing-is_synced.ensures.text c.prepare-device.ensures.crash undo_synced c.prepare-device-2.ensures.crash
    text_synced c.put_both.ensures.crash

pub returns-in-Err-Out-clause-crash : goal.returns-in-Err-Out-clause-crash
returns-in-Err-Out-clause-crash g c =
    let base = g.D.Device.durable c.args.device in
    let one = c.prepare-device.result.0 in
    let two = c.prepare-device-2.result.0 in
    let undo_synced = rw c.in-Ok.is at c.prepare-device.ensures.synced in
    let text_synced = rw c.in-Ok-answer.is at c.prepare-device-2.ensures.synced in
    let target = target_too _ base c.args.file.now (g.D.Device.agrees c.args.device) c.requires.text in
    pair_done (g.D.Device.past c.args.device) (g.D.Device.past one) (g.D.Device.past two) (g.D.Device.past c.put_both.new.device)
    base (g.D.Device.durable one) (g.D.Device.durable two) _ _ _ _ _ c.args.file.now c.is_replacing-is_synced.result
    target c.is_replacing-is_synced.ensures.text c.prepare-device.ensures.crash undo_synced c.prepare-device-2.ensures.crash
    text_synced c.put_both.ensures.crash
