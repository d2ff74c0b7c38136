use Rattle.std.proofs.Common.{◌-◌, ◌*◌, min}
use Rattle.sound_tables.proofs.VelocityLaws.{IsBetween}
use Rattle.sound_tables.proofs.loudness.velatt.Given as goal

abbrev pub invariant-loop-low : goal.invariant-loop-low
invariant-loop-low l = IsBetween (min l.fn.velocity 127 * min l.fn.velocity 127 * 65536) l.low l.high

abbrev pub decreases-loop-low : goal.decreases-loop-low
decreases-loop-low l = l.high - l.low
