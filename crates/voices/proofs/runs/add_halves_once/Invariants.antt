use Rattle.std.proofs.Common.{◌≡◌, ℕ, ◌<◌, ◌≤◌, pos, get_or}
use Rattle.voices.specs.Panning.{side}
use Rattle.voices.specs.Runs.{IsAdded}
use Rattle.voices.proofs.runs.add_halves_once.Given as goal

abbrev pub invariant-loop-k : goal.invariant-loop-k
invariant-loop-k l = record {
  done : (k : ℕ) → k < l.k
      → IsAdded (get_or l.fn.middle k (pos 0)) (side (get_or l.run k (pos 0)) 500) (get_or l.middle k (pos 0));
  rest : (k : ℕ) → l.k ≤ k → get_or l.middle k (pos 0) ≡ get_or l.fn.middle k (pos 0);
}
