use Rattle.mixer.proofs.Selected.{started_is}
use Rattle.zone_select.specs.Pairs.{voice_by}
use Rattle.mixer.proofs.playing.add_voice.Goals as goal

pub returns-in_ok-push-in-Ok : goal.returns-in_ok-push-in-Ok
returns-in_ok-push-in-Ok c =
    let new =
    started_is c.args.note.now (voice_by c.args.bank.now c.args.note.now c.args.pair) c.in-Ok.voice c.bank.result
    c.number.result c.in-Ok.ensures.value c.bank.ensures c.number.ensures in
    cc (c.in_ok-push-in-Ok.ensures.items)
