use Rattle.std.proofs.Common.{◌≡◌, take}
use Rattle.bank_parts.specs.Valid.{point_total}
use Rattle.bank_parts.specs.Counts.{counted}
use Rattle.bank_validity.proofs.totals.points_in.Given as goal

abbrev pub invariant-loop-sample : goal.invariant-loop-sample
invariant-loop-sample l = l.total ≡ counted (point_total (take l.sample-index l.samples))
