use Rattle.std.proofs.Common.{string_bytes, rules}
use Rattle.file_disk.proofs.KeepLaws.{put_done, linked_undone, moved_undone, keep_failed, there_of, keeps_of, puts_of}
use Rattle.file_disk.proofs.CrashLaws.{leaves_as, leaves_same, new_too, target_too, there_too}
use Rattle.file_disk.proofs.CrashKeepLaws.{but_more, has_moved, spare_first, spare_new, spare_second, then_lost}
use Rattle.file_disk.proofs.CrashKeepLaws.{then_may_move, then_moved}
use Rattle.file_disk.specs.Crashes.{KeepsFilesBut}
use Rattle.file_disk.proofs.keeping.put_and_keep.Goals as goal

pub returns-in_err-is_linked-clause-failed : goal.returns-in_err-is_linked-clause-failed
returns-in_err-is_linked-clause-failed g c =
    keep_failed _ _ (string_bytes c.args.file.now.path) c.from_residual.result
    (there_of _ c.args.file.now c.requires.target (search rules)) c.in_err-is_linked.ensures.failed

pub returns-in-Ok-clause-put : goal.returns-in-Ok-clause-put
returns-in-Ok-clause-put g c =
    let kept = c.in_ok-is_linked.ensures in
    put_done _ (g.D.Device.world c.keep_old.new.device) _ c.in_ok-is_linked.is_linked _ _ _ _ (search rules)
    (puts_of _ c.args.file.now _ _ c.requires.target (search rules) kept.free c.requires.named c.requires.there)
    kept.kept c.in-Ok.ensures.moved

pub returns-then-is_linked-clause-failed : goal.returns-then-is_linked-clause-failed
returns-then-is_linked-clause-failed g c =
    let kept = c.in_ok-is_linked.ensures in
    let lost = rw (c.as_str.ensures.value, c.in-Err.ensures.stays) at c.remove.ensures.lost in
    linked_undone _ (g.D.Device.world c.keep_old.new.device) _ c.in_ok-is_linked.is_linked _ _ c.if-is_linked.true
    (keeps_of _ c.args.file.now _ c.requires.target (search rules) kept.free kept.named) kept.kept lost

pub returns-else-is_linked-clause-failed : goal.returns-else-is_linked-clause-failed
returns-else-is_linked-clause-failed g c =
    let kept = c.in_ok-is_linked.ensures in
    let back = c.put_in_place-else-is_linked.ensures in
    let stays = c.in-Err.ensures.stays in
    let moved = rw (c.as_str-else-is_linked.ensures.value, stays) at back.moved in
    let same = rw stays at back.stays in
    moved_undone _ (g.D.Device.world c.keep_old.new.device) _ c.in_ok-is_linked.is_linked _ _
    c.put_in_place-else-is_linked.result c.if-is_linked.false
    (keeps_of _ c.args.file.now _ c.requires.target (search rules) kept.free kept.named) kept.kept moved same

pub returns-in-Ok-clause-crash : goal.returns-in-Ok-clause-crash
returns-in-Ok-clause-crash g c =
    let base = g.D.Device.durable c.args.device.now in
    let before = g.D.Device.past c.args.device.now in
    let path = string_bytes c.args.file.now.path in
    let new = c.args.new_path.now in
    let mid = g.D.Device.durable c.keep_old.new.device in
    let kept =
    leaves_as (KeepsFilesBut path path) (KeepsFilesBut path new) before (g.D.Device.past c.keep_old.new.device) base mid
    (but_more path new) c.in_ok-is_linked.ensures.crash in
    then_moved path new before _ (g.D.Device.past c.put_in_place-2.new.device) base mid
    (g.D.Device.durable c.put_in_place-2.new.device) new path (spare_second path new base) (spare_first path new base) kept
    c.in-Ok.ensures.left c.in-Ok.ensures.crash

pub returns-in-Ok-clause-moved : goal.returns-in-Ok-clause-moved
returns-in-Ok-clause-moved g c =
    let agrees = g.D.Device.agrees c.args.device.now in
    has_moved _ (g.D.Device.durable c.keep_old.new.device) _ c.args.file.now c.args.new_path.now
    (target_too _ _ c.args.file.now agrees c.requires.target) c.requires.named (there_too _ _ _ agrees c.requires.there)
    c.in_ok-is_linked.ensures.crash.left c.in-Ok.ensures.left

pub returns-then-is_linked-clause-crash : goal.returns-then-is_linked-clause-crash
returns-then-is_linked-clause-crash g c =
    let base = g.D.Device.durable c.args.device.now in
    let before = g.D.Device.past c.args.device.now in
    let path = string_bytes c.args.file.now.path in
    let new = c.args.new_path.now in
    let mid = g.D.Device.durable c.keep_old.new.device in
    let kept =
    leaves_as (KeepsFilesBut path path) (KeepsFilesBut path new) before (g.D.Device.past c.keep_old.new.device) base mid
    (but_more path new) c.in_ok-is_linked.ensures.crash in
    let spare = spare_new path new base _ (new_too _ _ _ (g.D.Device.agrees c.args.device.now) c.in_ok-is_linked.ensures.free) in
    let still =
    leaves_same (KeepsFilesBut path new) before _ (g.D.Device.past c.put_in_place-2.new.device) base mid
    (g.D.Device.durable c.put_in_place-2.new.device) kept c.in-Err.ensures.left c.in-Err.ensures.crash in
    then_lost path new before _ (g.D.Device.past c.remove.new.device) base _ (g.D.Device.durable c.remove.new.device)
    _ spare still (rw c.as_str.ensures.value at c.remove.ensures.left) c.remove.ensures.crash

pub returns-else-is_linked-clause-crash : goal.returns-else-is_linked-clause-crash
returns-else-is_linked-clause-crash g c =
    let base = g.D.Device.durable c.args.device.now in
    let before = g.D.Device.past c.args.device.now in
    let path = string_bytes c.args.file.now.path in
    let new = c.args.new_path.now in
    let mid = g.D.Device.durable c.keep_old.new.device in
    let kept =
    leaves_as (KeepsFilesBut path path) (KeepsFilesBut path new) before (g.D.Device.past c.keep_old.new.device) base mid
    (but_more path new) c.in_ok-is_linked.ensures.crash in
    let spare = spare_new path new base _ (new_too _ _ _ (g.D.Device.agrees c.args.device.now) c.in_ok-is_linked.ensures.free) in
    let still =
    leaves_same (KeepsFilesBut path new) before _ (g.D.Device.past c.put_in_place-2.new.device) base mid
    (g.D.Device.durable c.put_in_place-2.new.device) kept c.in-Err.ensures.left c.in-Err.ensures.crash in
    let back = c.put_in_place-else-is_linked in
    then_may_move path new before _ (g.D.Device.past back.new.device) base _ (g.D.Device.durable back.new.device)
    _ path back.result spare (spare_first path new base) still
    (rw c.as_str-else-is_linked.ensures.value at back.ensures.left) back.ensures.crash
