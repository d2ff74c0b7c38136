use Rattle.std.proofs.Common.{◌≡◌, ◌≤◌, ◌-◌}
use Rattle.std.specs.Prelude.{slice_range}
use Rattle.show_sample.specs.Extremes.{extremes_of}
use Rattle.show_sample.proofs.extremes.extremes_between.Given as goal

-- the extremes of the points so far
abbrev pub invariant-loop-index : goal.invariant-loop-index
invariant-loop-index l = record {
  begins : l.start ≤ l.index;
  within : l.index ≤ l.end;
  found : l.found ≡ extremes_of (slice_range l.points l.start l.index);
}

abbrev pub decreases-loop-index : goal.decreases-loop-index
decreases-loop-index l = l.end - l.index
