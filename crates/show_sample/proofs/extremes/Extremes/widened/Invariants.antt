use Rattle.std.proofs.Common.{◌≡◌, take}
use Rattle.std.specs.Int.{int_min, int_max}
use Rattle.std.specs.List.{fold}
use Rattle.sample_view.specs.Words.{words}
use Rattle.show_sample.specs.Extremes.{signed}
use Rattle.show_sample.proofs.extremes.Extremes.widened.Given as goal

-- the extremes of the points so far
abbrev pub invariant-loop-index : goal.invariant-loop-index
invariant-loop-index l = record {
  low : l.low ≡ fold int_min l.fn.self.low (signed (take l.index (words l.bytes)));
  high : l.high ≡ fold int_max l.fn.self.high (signed (take l.index (words l.bytes)));
}
