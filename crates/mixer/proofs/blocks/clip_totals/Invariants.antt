use Rattle.std.proofs.Common.{◌≡◌, ℕ, ◌<◌, pos, get_or}
use Rattle.mixer.specs.StartFrames.{clipped}
use Rattle.mixer.proofs.blocks.clip_totals.Given as goal

abbrev pub invariant-loop-i : goal.invariant-loop-i
invariant-loop-i l = (k : ℕ) → k < l.i → get_or l.out k (pos 0) ≡ clipped (get_or l.totals k (pos 0))
