use Rattle.std.proofs.Common.{arith}
use Rattle.bench_voices.proofs.blocks.is_as_single_frames.Goals as goal

pub add_frames-requires-clause-room : goal.add_frames-requires-clause-room
add_frames-requires-clause-room c k h =
    let silent = c.silence-sums.ensures.room k h in
    grind (arith, silent)
