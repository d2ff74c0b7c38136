use Rattle.file_disk.proofs.PairLaws.{text_failed}
use Rattle.std.proofs.Common.{string_bytes}
use Rattle.file_disk.proofs.CrashLaws.{goes_on, known_same, passes_as}
use Rattle.file_disk.proofs.CrashPairLaws.{both_back, both_dropped, both_lost, both_moved, both_self, lasting_too}
use Rattle.file_disk.specs.Crashes.{FromKnown, LeavesBoth}
use Rattle.file_disk.proofs.pair.put_text.Goals as goal

pub returns-in-Err-clause-failed : goal.returns-in-Err-clause-failed
returns-in-Err-clause-failed g c =
    let back = rw (c.as_str-in-Err.ensures.value, c.in-Err.ensures.stays) at c.put_back.ensures.back in
    let lost = rw c.as_str-in-Err-2.ensures.value at c.remove.ensures.lost in
    text_failed _ (g.D.Device.world c.put_back.new.device) _ _ _ _ _ _ c.requires.apart back lost

pub returns-in-Ok-clause-crash : goal.returns-in-Ok-clause-crash
returns-in-Ok-clause-crash g c =
    let base = g.D.Device.durable c.args.device.now in
    let before = g.D.Device.past c.args.device.now in
    let agrees = g.D.Device.agrees c.args.device.now in
    let undo_path = string_bytes c.args.undo_file.now.path in
    let path = string_bytes c.args.file.now.path in
    let new = string_bytes c.args.names.now.new_text in
    let old = string_bytes c.args.names.now.old_undo in
    let P = FromKnown (LeavesBoth undo_path undo_path path new) base in
    let at_first = both_self undo_path undo_path path new base in
    let lasting_undo = lasting_too _ base undo_path agrees c.requires.lasting_undo in
    let lasting_text = lasting_too _ base path agrees c.requires.lasting_text in
    let put = g.D.Device.durable c.put_in_place.new.device in
    let moved =
    both_moved undo_path path new base put lasting_undo c.requires.named_new
    (rw c.as_str.ensures.value at c.in-Ok.ensures.left) in
    let last = g.D.Device.durable c.drop_old.new.device in
    let dropped =
    both_dropped undo_path undo_path path new base put last old c.args.undo_file.now.is_there c.drop_old.result lasting_undo
    lasting_text c.requires.named_old moved (rw c.as_str-in-Ok.ensures.value at c.drop_old.ensures.left) in
    goes_on before _ (g.D.Device.past c.drop_old.new.device) P put last
    (passes_as before (g.D.Device.past c.put_in_place.new.device) P base put at_first moved c.in-Ok.ensures.crash)
    moved dropped c.drop_old.ensures.crash

pub returns-in-Err-clause-crash : goal.returns-in-Err-clause-crash
returns-in-Err-clause-crash g c =
    let base = g.D.Device.durable c.args.device.now in
    let before = g.D.Device.past c.args.device.now in
    let agrees = g.D.Device.agrees c.args.device.now in
    let undo_path = string_bytes c.args.undo_file.now.path in
    let path = string_bytes c.args.file.now.path in
    let new = string_bytes c.args.names.now.new_text in
    let old = string_bytes c.args.names.now.old_undo in
    let P = FromKnown (LeavesBoth undo_path undo_path path new) base in
    let at_first = both_self undo_path undo_path path new base in
    let lasting_undo = lasting_too _ base undo_path agrees c.requires.lasting_undo in
    let lasting_text = lasting_too _ base path agrees c.requires.lasting_text in
    let put = g.D.Device.durable c.put_in_place.new.device in
    let back = g.D.Device.durable c.put_back.new.device in
    let last = g.D.Device.durable c.remove.new.device in
    let same = c.in-Err.ensures.left in
    let still = known_same P base put same at_first in
    let is_back =
    both_back undo_path undo_path path new base back old c.args.undo_file.now.is_there lasting_text c.requires.named_old
    (rw (c.as_str-in-Err.ensures.value, same) at c.put_back.ensures.left) in
    let removed =
    both_lost undo_path undo_path path new base back last new lasting_undo lasting_text c.requires.named_new is_back
    (rw c.as_str-in-Err-2.ensures.value at c.remove.ensures.left) in
    goes_on before _ (g.D.Device.past c.remove.new.device) P back last
    (goes_on before _ (g.D.Device.past c.put_back.new.device) P put back
    (passes_as before (g.D.Device.past c.put_in_place.new.device) P base put at_first still c.in-Err.ensures.crash)
    still is_back c.put_back.ensures.crash)
    is_back removed c.remove.ensures.crash
