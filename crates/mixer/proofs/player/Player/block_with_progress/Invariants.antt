use Rattle.std.proofs.Common.{◌≡◌, ℕ, ◌-◌, ◌/◌, ◌%◌, ◌<◌, ◌≤◌, pos, get_or, length}
use Rattle.mixer.specs.Events.{after_block, next_side}
use Rattle.mixer.proofs.player.Player.block_with_progress.Given as goal

abbrev pub invariant-loop-at : goal.invariant-loop-at
invariant-loop-at g l = record {
  within : l.at ≤ length l.fn.out;
  even : l.at % 2 ≡ 0;
  value : (k : ℕ) → k < l.at → get_or l.out k (pos 0) ≡ next_side l.fn.self k;
  live : l.self ≡ after_block l.fn.self (l.at / 2);
}

abbrev pub decreases-loop-at : goal.decreases-loop-at
decreases-loop-at g l = length l.fn.out - l.at
