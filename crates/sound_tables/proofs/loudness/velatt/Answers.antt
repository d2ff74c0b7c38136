use Rattle.std.proofs.Common.{◌+◌, ◌/◌, arith}
use Rattle.sound_tables.proofs.VelocityLaws.{all_between, louder}
use Rattle.sound_tables.proofs.loudness.velatt.Goals as goal

pub loop-low-init : goal.loop-low-init
loop-low-init c = all_between _

pub loop-low-preserved : goal.loop-low-preserved
loop-low-preserved c =
    louder _ c.loop-low.low ((c.loop-low.low + c.loop-low.high) / 2) c.loop-low.high c.loop-low.invariant
    (omega arith) (omega arith) (grind arith)
