use Rattle.file_disk.proofs.PairLaws.{both_done, both_failed, undo_failed, direct_still, direct_after, ready_of}
use Rattle.std.proofs.Common.{string_bytes}
use Rattle.file_disk.proofs.CrashLaws.{goes_on, known_map, known_of, since_as, since_then, target_too, there_too}
use Rattle.file_disk.proofs.CrashKeepLaws.{spare_second, then_lost}
use Rattle.file_disk.proofs.CrashPairLaws.{apart_too, both_after, both_kept, both_lost, lasting_of}
use Rattle.file_disk.specs.Crashes.{FromKnown, KeepsFilesBut, LeavesBoth}
use Rattle.file_disk.proofs.pair.put_both.Goals as goal

pub remove-requires : goal.remove-requires
remove-requires g c =
    rw c.as_str-in-Err.ensures.value
    (direct_still (g.D.Device.world c.args.device.now) _ _ _ c.in-Err.ensures.failed c.requires.direct_undo)

pub remove-requires-in-Err : goal.remove-requires-in-Err
remove-requires-in-Err g c =
    rw c.as_str-in-Err-2.ensures.value
    (direct_after _ _ _ _ c.remove.ensures.lost
    (direct_still (g.D.Device.world c.args.device.now) _ _ _ c.in-Err.ensures.failed c.requires.direct_text))

pub returns-in-Ok-clause-put : goal.returns-in-Ok-clause-put
returns-in-Ok-clause-put g c =
    let put = rw c.as_str.ensures.value at c.in-Ok.ensures.put in
    both_done _ (g.D.Device.world c.put_and_keep-put.new.device) _ _ _ _ _ _ _ c.put_text.result
    (ready_of _ c.args.undo_file.now c.args.file.now _ _ _ c.requires.undo c.requires.text c.requires.new_undo
    c.requires.new_text c.requires.there_undo c.requires.there_text c.requires.apart c.in-Ok.ensures.named
    c.in-Ok.ensures.free)
    put c.put_text.ensures.put

pub returns-in-Ok-clause-failed : goal.returns-in-Ok-clause-failed
returns-in-Ok-clause-failed g c =
    let put = rw c.as_str.ensures.value at c.in-Ok.ensures.put in
    both_failed _ (g.D.Device.world c.put_and_keep-put.new.device) _ _ _ _ _ _ _ c.put_text.result
    (ready_of _ c.args.undo_file.now c.args.file.now _ _ _ c.requires.undo c.requires.text c.requires.new_undo
    c.requires.new_text c.requires.there_undo c.requires.there_text c.requires.apart c.in-Ok.ensures.named
    c.in-Ok.ensures.free)
    put c.put_text.ensures.failed

pub returns-in-Err-clause-failed : goal.returns-in-Err-clause-failed
returns-in-Err-clause-failed g c =
    let one = rw c.as_str-in-Err.ensures.value at c.remove.ensures.lost in
    let two = rw c.as_str-in-Err-2.ensures.value at c.remove-in-Err.ensures.lost in
    undo_failed _ (g.D.Device.world c.put_and_keep-put.new.device) (g.D.Device.world c.remove.new.device) _
    c.args.undo_file.now c.args.file.now _ _ c.requires.undo c.requires.text c.requires.new_undo c.requires.new_text
    c.requires.there_undo c.requires.there_text c.in-Err.ensures.failed one two

pub returns-in-Ok-clause-crash : goal.returns-in-Ok-clause-crash
returns-in-Ok-clause-crash g c =
    let base = g.D.Device.durable c.args.device.now in
    let before = g.D.Device.past c.args.device.now in
    let agrees = g.D.Device.agrees c.args.device.now in
    let undo_path = string_bytes c.args.undo_file.now.path in
    let path = string_bytes c.args.file.now.path in
    let new_undo = string_bytes c.args.names.now.new_undo in
    let new_text = string_bytes c.args.names.now.new_text in
    let P = FromKnown (LeavesBoth undo_path new_undo path new_text) base in
    let lasting_undo = lasting_of base c.args.undo_file.now (target_too _ base c.args.undo_file.now agrees c.requires.undo) in
    let lasting_text = lasting_of base c.args.file.now (target_too _ base c.args.file.now agrees c.requires.text) in
    let kept = both_kept undo_path new_undo path new_text base lasting_text c.requires.new_undo in
    let mid = g.D.Device.durable c.put_and_keep-put.new.device in
    let after = g.D.Device.past c.put_and_keep-put.new.device in
    let put = rw c.as_str.ensures.value at c.in-Ok.ensures.crash in
    let moved = rw c.as_str.ensures.value at c.in-Ok.ensures.moved in
    since_then before after (g.D.Device.past c.put_text.new.device) P
    (since_as before after (FromKnown (KeepsFilesBut undo_path new_undo) base) P kept put.crash)
    (since_as after _ (FromKnown (LeavesBoth undo_path undo_path path new_text) mid) P
    (both_after undo_path new_undo path new_text base mid lasting_undo lasting_text c.requires.new_undo c.requires.new_text
    (there_too _ base new_text agrees c.requires.there_text) (apart_too _ base new_undo new_text agrees c.requires.apart)
    put.left moved)
    c.put_text.ensures.crash)

pub returns-in-Err-clause-crash : goal.returns-in-Err-clause-crash
returns-in-Err-clause-crash g c =
    let base = g.D.Device.durable c.args.device.now in
    let before = g.D.Device.past c.args.device.now in
    let agrees = g.D.Device.agrees c.args.device.now in
    let undo_path = string_bytes c.args.undo_file.now.path in
    let path = string_bytes c.args.file.now.path in
    let new_undo = string_bytes c.args.names.now.new_undo in
    let new_text = string_bytes c.args.names.now.new_text in
    let P = FromKnown (LeavesBoth undo_path new_undo path new_text) base in
    let lasting_undo = lasting_of base c.args.undo_file.now (target_too _ base c.args.undo_file.now agrees c.requires.undo) in
    let lasting_text = lasting_of base c.args.file.now (target_too _ base c.args.file.now agrees c.requires.text) in
    let kept = both_kept undo_path new_undo path new_text base lasting_text c.requires.new_undo in
    let mid = g.D.Device.durable c.put_and_keep-put.new.device in
    let after = g.D.Device.past c.put_and_keep-put.new.device in
    let put = rw c.as_str.ensures.value at c.in-Err.ensures.crash in
    let next = g.D.Device.durable c.remove.new.device in
    let last = g.D.Device.durable c.remove-in-Err.new.device in
    let removed =
    then_lost undo_path new_undo before after (g.D.Device.past c.remove.new.device) base mid next new_undo
    (spare_second undo_path new_undo base) put (rw c.as_str-in-Err.ensures.value at c.remove.ensures.left)
    c.remove.ensures.crash in
    let R = FromKnown (KeepsFilesBut undo_path new_undo) base in
    let still = known_map R P next kept (known_of (KeepsFilesBut undo_path new_undo) base next removed.left) in
    goes_on before (g.D.Device.past c.remove.new.device) (g.D.Device.past c.remove-in-Err.new.device) P next last
    (since_as before (g.D.Device.past c.remove.new.device) R P kept removed.crash)
    still
    (both_lost undo_path new_undo path new_text base next last new_text lasting_undo lasting_text c.requires.new_text still
    (rw c.as_str-in-Err-2.ensures.value at c.remove-in-Err.ensures.left))
    c.remove-in-Err.ensures.crash
