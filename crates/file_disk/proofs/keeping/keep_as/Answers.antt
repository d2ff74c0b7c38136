use Rattle.std.proofs.Common.{string_bytes}
use Rattle.file_disk.proofs.CrashLaws.{leaves_same, new_too}
use Rattle.file_disk.proofs.CrashKeepLaws.{but_self, but_then, spare_new, then_linked}
use Rattle.file_disk.specs.Crashes.{KeepsFilesBut, Leaves}
use Rattle.file_disk.proofs.keeping.keep_as.Goals as goal
use Rattle.file_disk.proofs.keeping.keep_as.Goals.{then-is_owned+in-Err+else-eq, else-is_owned}

pub returns-in-Ok-clause-crash : goal.returns-in-Ok-clause-crash
returns-in-Ok-clause-crash g c =
    let base = g.D.Device.durable c.args.device.now in
    let before = g.D.Device.past c.args.device.now in
    let path = string_bytes c.args.file.now.path in
    let free = new_too _ _ _ (g.D.Device.agrees c.args.device.now) c.in-Ok.ensures.free in
    then_linked path path before before (g.D.Device.past c.link.new.self) base base (g.D.Device.durable c.link.new.self) path
    c.args.old_path.now (spare_new path path base c.args.old_path.now free) (but_self path path before base)
    (rw c.as_str.ensures.value at c.in-Ok.ensures.left) c.in-Ok.ensures.crash

pub returns-in_err-move_to-clause-crash : goal.returns-in_err-move_to-clause-crash
returns-in_err-move_to-clause-crash g c =
    let base = g.D.Device.durable c.args.device.now in
    let before = g.D.Device.past c.args.device.now in
    let path = string_bytes c.args.file.now.path in
    let mid = g.D.Device.durable c.if-is_owned.device in
    let so_far : Leaves (KeepsFilesBut path path) before (g.D.Device.past c.if-is_owned.device) base mid =
    elim c.if-is_owned.branch [
      | then-is_owned+in-Err+else-eq w ↦
          rw w.device-is
          (leaves_same (KeepsFilesBut path path) before before (g.D.Device.past w.link.new.self) base base
          (g.D.Device.durable w.link.new.self) (but_self path path before base) w.in-Err.ensures.left w.in-Err.ensures.crash)
      | else-is_owned w ↦ rw w.device-is (but_self path path before base)
    ] in
    but_then path path before (g.D.Device.past c.if-is_owned.device) (g.D.Device.past c.move_to.new.device) base mid
    (g.D.Device.durable c.move_to.new.device) so_far c.in_err-move_to.ensures.crash

pub returns-clause-crash : goal.returns-clause-crash
returns-clause-crash g c =
    let base = g.D.Device.durable c.args.device.now in
    let before = g.D.Device.past c.args.device.now in
    let path = string_bytes c.args.file.now.path in
    let mid = g.D.Device.durable c.if-is_owned.device in
    let so_far : Leaves (KeepsFilesBut path path) before (g.D.Device.past c.if-is_owned.device) base mid =
    elim c.if-is_owned.branch [
      | then-is_owned+in-Err+else-eq w ↦
          rw w.device-is
          (leaves_same (KeepsFilesBut path path) before before (g.D.Device.past w.link.new.self) base base
          (g.D.Device.durable w.link.new.self) (but_self path path before base) w.in-Err.ensures.left w.in-Err.ensures.crash)
      | else-is_owned w ↦ rw w.device-is (but_self path path before base)
    ] in
    but_then path path before (g.D.Device.past c.if-is_owned.device) (g.D.Device.past c.move_to.new.device) base mid
    (g.D.Device.durable c.move_to.new.device) so_far c.in_ok-move_to.ensures.crash
