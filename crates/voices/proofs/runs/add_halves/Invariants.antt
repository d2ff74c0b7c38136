use Rattle.std.proofs.Common.{◌≡◌, ℕ, ◌*◌, ◌/◌, ◌<◌, ◌≤◌, pos, get_or}
use Rattle.voices.specs.Panning.{side}
use Rattle.voices.specs.Runs.{IsAdded}
use Rattle.voices.proofs.runs.add_halves.Given as goal

abbrev pub invariant-loop-k : goal.invariant-loop-k
invariant-loop-k l = record {
  done : (i : ℕ) → i < 2 * l.k
      → IsAdded (get_or l.fn.sums i (pos 0)) (side (get_or l.run (i / 2) (pos 0)) 500) (get_or l.sums i (pos 0));
  rest : (i : ℕ) → 2 * l.k ≤ i → get_or l.sums i (pos 0) ≡ get_or l.fn.sums i (pos 0);
}
