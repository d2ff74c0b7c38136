use Rattle.std.proofs.Common.{◌≡◌, ℕ, ◌*◌, ◌/◌, ◌%◌, ◌<◌, ◌≤◌, pos, get_or, cond, nat_eq}
use Rattle.voices.specs.Panning.{side}
use Rattle.voices.specs.Runs.{IsAdded}
use Rattle.voices.proofs.runs.add_both_sides.Given as goal

abbrev pub invariant-loop-k : goal.invariant-loop-k
invariant-loop-k l = record {
  done : (i : ℕ) → i < 2 * l.k
      → IsAdded (get_or l.fn.sums i (pos 0))
      (side (get_or l.run (i / 2) (pos 0)) (cond (nat_eq (i % 2) 0) l.left l.right)) (get_or l.sums i (pos 0));
  rest : (i : ℕ) → 2 * l.k ≤ i → get_or l.sums i (pos 0) ≡ get_or l.fn.sums i (pos 0);
}
