use Rattle.std.proofs.Common.{◌≡◌, ◌-◌, ◌≤◌, length}
use Rattle.sfbank_c.specs.Players.{later}
use Rattle.sfbank_c.proofs.SideLaws.{IsSide}
use Rattle.sfbank_c.proofs.floats.write_parts.Given as goal

abbrev pub invariant-loop-at : goal.invariant-loop-at
invariant-loop-at l = record {
  within : l.at ≤ length l.fn.left;
  player : l.player ≡ later l.at l.fn.player;
  left : IsSide 0 l.fn.player.player l.at l.left;
  right : IsSide 1 l.fn.player.player l.at l.right;
}

abbrev pub decreases-loop-at : goal.decreases-loop-at
decreases-loop-at l = length l.fn.left - l.at
