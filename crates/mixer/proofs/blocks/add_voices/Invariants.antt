use Rattle.std.proofs.Common.{◌≡◌, ℕ, ◌+◌, ◌/◌, ◌<◌, ◌++◌, ◌+ℤ◌, pos, get_or, length, map, take, drop}
use Rattle.voices.specs.Within.{AllWithin}
use Rattle.mixer.specs.Events.{aged, total_at}
use Rattle.mixer.proofs.blocks.add_voices.Given as goal

abbrev pub invariant-loop-p : goal.invariant-loop-p
invariant-loop-p l = record {
  value : (k : ℕ) → k < length l.sides → get_or l.sides k (pos 0) +ℤ get_or l.middle (k / 2) (pos 0)
      ≡ get_or l.fn.sides k (pos 0) +ℤ get_or l.fn.middle (k / 2) (pos 0) +ℤ total_at (take l.p-index l.fn.voices) k;
  room : (j : ℕ) → AllWithin j l.fn.sides → AllWithin (j + l.p-index) l.sides;
  middle : (j : ℕ) → AllWithin j l.fn.middle → AllWithin (j + l.p-index) l.middle;
  live : l.voices ≡ map (aged (length l.fn.sides / 2)) (take l.p-index l.fn.voices) ++ drop l.p-index l.fn.voices;
}
