use Rattle.std.proofs.Common.{arith}
use Rattle.std.proofs.lemmas.Int.{ints}
use Rattle.voices.proofs.voice.Voice.add_frames.Goals as goal

pub returns-clause-room : goal.returns-clause-room
returns-clause-room c j room k h =
    let a = c.add_run.ensures.sums k h in
    let added = a.added in
    let low = a.low in
    let high = a.high in
    let was = room k (omega (arith, h, c.add_run.auto.sums)) in
    (omega (arith, ints, added, low, high, was.0, was.1), omega (arith, ints, added, low, high, was.0, was.1))
