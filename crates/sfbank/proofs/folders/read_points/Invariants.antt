use Rattle.std.proofs.Common.{◌≡◌, ◌+◌, drop, length, map, suc}
use Rattle.std.specs.List.{zip}
use Rattle.sfbank.specs.Folders.{all_points, points_from}
use Rattle.sfbank.proofs.KitRuns.{joined}
use Rattle.sfbank.proofs.folders.read_points.Given as goal

-- the points so far, followed by those of the other files, are all
abbrev pub invariant-loop-sample : goal.invariant-loop-sample
invariant-loop-sample l =
    (l.number + length l.sample-iterator.rest.items ≡ length l.fn.samples.items)
    × (all_points l.fn.samples.items (map (λ wave. wave.now) l.waves)
    ≡ joined l.all.items
    (points_from (suc l.number) (zip l.sample-iterator.rest.items (drop l.number (map (λ wave. wave.now) l.waves)))))
