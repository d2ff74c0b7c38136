use Rattle.std.proofs.Common.{Ok}
use Rattle.file_disk.proofs.KeepLaws.{new_failed}
use Rattle.file_disk.proofs.pair.replace_and_send.Goals as goal

pub returns-in-Err-put_in_place-clause-failed : goal.returns-in-Err-put_in_place-clause-failed
returns-in-Err-put_in_place-clause-failed g c =
    let made = rw c.in-Ok.is at c.prepare-device.ensures.made in
    let lost =
    rw (c.as_str-in-Err-put_in_place.ensures.value, c.in-Err-put_in_place.ensures.stays, c.send-device.ensures.stays)
    at c.remove-in-Err-put_in_place.ensures.lost in
    new_failed _ (g.D.Device.world c.prepare-device.result.0) _ _ (Ok (g.U.Text.bytes c.args.undo.now)) made.free made.named
    made.world lost
