use Rattle.std.proofs.Common.{◌≡◌, ℕ, ◌-◌, ◌/◌, ◌<◌, ◌≤◌, ◌++◌, ◌+ℤ◌, ◌*◌, pos, get_or, length, map, take, drop}
use Rattle.voices.specs.Within.{AllWithin}
use Rattle.mixer.specs.Events.{aged, total_at}
use Rattle.mixer.proofs.blocks.add_all.Given as goal

abbrev pub invariant-loop-at : goal.invariant-loop-at
invariant-loop-at l = record {
  within : l.at ≤ length l.fn.voices;
  value : (k : ℕ) → k < length l.totals
      → get_or l.totals k (pos 0) ≡ get_or l.fn.totals k (pos 0) +ℤ total_at (take l.at l.fn.voices) k;
  room : AllWithin (2 * l.at) l.totals;
  live : l.voices ≡ map (aged (length l.fn.totals / 2)) (take l.at l.fn.voices) ++ drop l.at l.fn.voices;
}

abbrev pub decreases-loop-at : goal.decreases-loop-at
decreases-loop-at l = length l.fn.voices - l.at
