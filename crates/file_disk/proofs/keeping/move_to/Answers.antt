use Rattle.std.proofs.Common.{◌∙◌, [], Ok, string_bytes}
use Rattle.file_disk.proofs.KeepLaws.{move_done, new_failed, there_of}
use Rattle.file_disk.proofs.CrashLaws.{leaves_same, new_too}
use Rattle.file_disk.proofs.CrashKeepLaws.{but_self, spare_first, spare_new, then_lost, then_made, then_moved}
use Rattle.file_disk.specs.Crashes.{KeepsFilesBut}
use Rattle.file_disk.proofs.keeping.move_to.Goals as goal

pub returns-in-Ok-rename-clause-moved : goal.returns-in-Ok-rename-clause-moved
returns-in-Ok-rename-clause-moved g c =
    move_done _ (g.D.Device.world c.create_new.new.self) _ (string_bytes c.args.file.now.path) c.args.old_path.now
    c.in-Ok.ensures.free (there_of _ c.args.file.now c.requires.target c.requires.there) c.in-Ok.ensures.made
    (rw c.as_str.ensures.value at c.in-Ok-rename.ensures.moved)

pub returns-in-Err-rename-clause-failed : goal.returns-in-Err-rename-clause-failed
returns-in-Err-rename-clause-failed g c =
    new_failed _ (g.D.Device.world c.rename.new.self) _ c.args.old_path.now (Ok []) c.in-Ok.ensures.free c.requires.named
    (c.in-Err-rename.ensures.stays ∙ c.in-Ok.ensures.made) c.remove.ensures.lost

pub returns-in-Ok-rename-clause-crash : goal.returns-in-Ok-rename-clause-crash
returns-in-Ok-rename-clause-crash g c =
    let base = g.D.Device.durable c.args.device.now in
    let before = g.D.Device.past c.args.device.now in
    let path = string_bytes c.args.file.now.path in
    let free = new_too _ _ _ (g.D.Device.agrees c.args.device.now) c.in-Ok.ensures.free in
    let spare = spare_new path path base c.args.old_path.now free in
    let made =
    then_made path path before before (g.D.Device.past c.create_new.new.self) base base
    (g.D.Device.durable c.create_new.new.self) c.args.old_path.now (Ok []) spare (but_self path path before base)
    c.in-Ok.ensures.left c.in-Ok.ensures.crash in
    then_moved path path before _ (g.D.Device.past c.rename.new.self) base _ (g.D.Device.durable c.rename.new.self) path
    c.args.old_path.now (spare_first path path base) spare made (rw c.as_str.ensures.value at c.in-Ok-rename.ensures.left)
    c.in-Ok-rename.ensures.crash

pub returns-in-Err-rename-clause-crash : goal.returns-in-Err-rename-clause-crash
returns-in-Err-rename-clause-crash g c =
    let base = g.D.Device.durable c.args.device.now in
    let before = g.D.Device.past c.args.device.now in
    let path = string_bytes c.args.file.now.path in
    let free = new_too _ _ _ (g.D.Device.agrees c.args.device.now) c.in-Ok.ensures.free in
    let spare = spare_new path path base c.args.old_path.now free in
    let made =
    then_made path path before before (g.D.Device.past c.create_new.new.self) base base
    (g.D.Device.durable c.create_new.new.self) c.args.old_path.now (Ok []) spare (but_self path path before base)
    c.in-Ok.ensures.left c.in-Ok.ensures.crash in
    let still =
    leaves_same (KeepsFilesBut path path) before _ (g.D.Device.past c.rename.new.self) base _
    (g.D.Device.durable c.rename.new.self) made c.in-Err-rename.ensures.left c.in-Err-rename.ensures.crash in
    then_lost path path before _ (g.D.Device.past c.remove.new.device) base _ (g.D.Device.durable c.remove.new.device)
    c.args.old_path.now spare still c.remove.ensures.left c.remove.ensures.crash
