use Rattle.std.proofs.Common.{◌≡◌, ◌≤◌, ◌-◌, ◌%◌, drop, length}
use Rattle.live_sessions.specs.Meters.{metered}
use Rattle.live_sessions.proofs.meter.Meter.add.Given as goal

-- the measures of the frames so far and of the rest are those of all
abbrev pub invariant-loop-at : goal.invariant-loop-at
invariant-loop-at l = record {
  within : l.at ≤ length l.samples;
  even : l.at % 2 ≡ 0;
  rest : metered l.self (drop l.at l.samples) ≡ metered l.fn.self l.samples;
}

abbrev pub decreases-loop-at : goal.decreases-loop-at
decreases-loop-at l = length l.samples - l.at
