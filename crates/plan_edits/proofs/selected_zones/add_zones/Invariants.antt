use Rattle.std.proofs.Common.{ℕ}
use Rattle.std.specs.List.{Contains}
use Rattle.zone_select.specs.Pairs.{pairs}
use Rattle.plan_edits.specs.Playing.{AddsSelected}
use Rattle.plan_edits.proofs.selected_zones.add_zones.Given as goal

abbrev pub invariant-loop-pair : goal.invariant-loop-pair
invariant-loop-pair l = record {
  can_next : (goal.iterator-loop-pair).can_next l.pairs;
  is_finite : (goal.iterator-loop-pair).is_finite l.pairs;
  left : (q : ℕ × ℕ) → Contains l.pairs q → Contains (pairs l.fn.bank l.fn.note) q;
  adds : AddsSelected l.fn.bank l.fn.note l.fn.set l.set;
}
