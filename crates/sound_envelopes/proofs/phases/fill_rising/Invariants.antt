use Rattle.std.proofs.Common.{◌≡◌, ℕ, ◌+◌, ◌*◌, ◌/◌, ◌<◌, get_or}
use Rattle.sound_envelopes.proofs.phases.fill_rising.Given as goal

abbrev pub invariant-loop-k : goal.invariant-loop-k
invariant-loop-k l = record {
  sum : l.whole * l.over + l.rest ≡ 65536 * (l.risen + l.k);
  small : l.rest < l.over;
  done : (k : ℕ) → k < l.k → get_or l.levels k 0 ≡ 65536 * (l.risen + k) / l.over;
}
