use Rattle.std.proofs.Common.{◌≡◌, ℕ, ◌/◌, ◌<◌, ◌≤◌, ◌+ℤ◌, pos, get_or}
use Rattle.mixer.proofs.blocks.add_to_totals.Given as goal

abbrev pub invariant-loop-i : goal.invariant-loop-i
invariant-loop-i l = record {
  done : (k : ℕ) → k < l.i
      → get_or l.totals k (pos 0)
      ≡ get_or l.fn.totals k (pos 0) +ℤ (get_or l.sides k (pos 0) +ℤ get_or l.middle (k / 2) (pos 0));
  left : (k : ℕ) → l.i ≤ k → get_or l.totals k (pos 0) ≡ get_or l.fn.totals k (pos 0);
}
