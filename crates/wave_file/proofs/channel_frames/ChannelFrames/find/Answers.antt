use Rattle.std.proofs.Common.{arith}
use Rattle.wave_file.specs.InPlace.{AreOf, AreFrames}
use Rattle.wave_file.proofs.FrameLaws.{in_file, frames_are, if_some, is_missing}
use Rattle.wave_file.proofs.channel_frames.ChannelFrames.find.Goals as goal

pub range_in_file-requires : goal.range_in_file-requires
range_in_file-requires c =
    let found = c.in-Some.ensures in
    let after = in_file c.args.file.now c.in-Ok.window.now c.in-Some.range c.in-Ok.ensures.1 found.header found.within in
    let within = after.within in
    omega (arith, within)

pub returns-in-Some : goal.returns-in-Some
returns-in-Some c =
    if_some c.of.result (λ frames. AreOf frames c.in-Ok-read_format.format c.range_in_file.result)
    (λ frames. AreFrames frames c.args.options c.args.file.now)
    (λ frames.
    frames_are c.args.options c.args.file.now c.in-Ok.window.now c.in-Ok-over.chunks c.format.result.now
    c.in-Ok-read_format.format c.in-Some.range c.range_in_file.result frames
    (is_missing c.args.options.dither c.is_some.result c.is_some.ensures c.if-is_some.false) c.in-Ok.ensures.1
    c.in-Ok-over.ensures.1 c.format.ensures c.in-Ok-read_format.ensures.reads.1 c.in-Ok-read_format.ensures.channel
    c.in-Some.ensures c.range_in_file.ensures.position c.range_in_file.ensures.size) c.of.ensures
