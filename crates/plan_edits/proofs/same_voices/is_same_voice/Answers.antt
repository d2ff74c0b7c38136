use Rattle.plan_edits.proofs.SameVoices.{same_voice}
use Rattle.plan_edits.proofs.same_voices.is_same_voice.Goals as goal

pub returns-then-are_equal : goal.returns-then-are_equal
returns-then-are_equal c is =
    let old = c.in-Some-Some.old in
    let new = c.in-Some-Some.new in
    same_voice c.args.from.now c.args.to.now c.args.note.now c.args.pair c.args.other old.sample new.sample old.voice
    new.voice c.in-Some-Some.ensures.sample c.in-Some-Some.ensures.voice c.in-Some-Some.ensures'.sample
    c.in-Some-Some.ensures'.voice (c.are_equal.ensures c.if-are_equal.true)
    (c.requires new.sample old.sample (c.is_number.ensures is))
