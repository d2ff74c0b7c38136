use Rattle.std.proofs.Common.{◌≡◌, ℕ, ◌/◌, ◌<◌, pos, ◌+ℤ◌, get_or}
use Rattle.mixer.specs.StartFrames.{clipped}
use Rattle.mixer.proofs.blocks.clip_sums.Given as goal

abbrev pub invariant-loop-i : goal.invariant-loop-i
invariant-loop-i l =
    (k : ℕ) → k < l.i → get_or l.out k (pos 0) ≡ clipped (get_or l.sums k (pos 0) +ℤ get_or l.middle (k / 2) (pos 0))
