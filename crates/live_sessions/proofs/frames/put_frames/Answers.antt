use Rattle.std.proofs.Common.{arith}
use Rattle.std.proofs.lemmas.Grind.{common_steps}
use Rattle.live_sessions.proofs.Blocks.{put_next, played_next, measured_next, measured_last}
use Rattle.live_sessions.proofs.frames.put_frames.Goals as goal

pub loop-left-preserved : goal.loop-left-preserved
loop-left-preserved g c = record {
  put =
      put_next c.loop-left.player c.put_block.new.player c.loop-left.left c.min-size.result c.loop-left.invariant.put
      c.put_block.ensures.put c.put_block.ensures.played (first_of (omega arith, grind (arith, common_steps)))
      (omega arith);
  played =
      played_next c.loop-left.player c.put_block.new.player c.args.player.now c.loop-left.left c.min-size.result
      c.args.count c.put_block.ensures.played c.loop-left.invariant.played
      (first_of (omega arith, grind (arith, common_steps))) (omega arith);
  measured =
      measured_next c.loop-left.player c.put_block.new.player c.args.player.now c.put_block.new.meter c.loop-left.meter
      c.args.meter.now c.loop-left.left c.min-size.result c.args.count c.put_block.ensures.played
      c.put_block.ensures.measured c.loop-left.invariant.measured (first_of (omega arith, grind (arith, common_steps)))
      (omega arith);
}

pub returns-clause-measured : goal.returns-clause-measured
returns-clause-measured g c =
    measured_last c.loop-left.meter c.args.meter.now c.loop-left.player c.args.player.now c.loop-left.left c.args.count
    (omega arith) c.loop-left.invariant.measured
