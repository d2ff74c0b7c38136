use Rattle.std.proofs.Common.{◌≡◌, ◌≤◌, ◌+◌, ◌-◌, take}
use Rattle.std.specs.Prelude.{sum_by}
use Rattle.bank_format.specs.Windows.{without_terminal}
use Rattle.sf_reader.proofs.samples.check_total.Given as goal

-- the points so far and those of the remaining headers are all
abbrev pub invariant-loop-head : goal.invariant-loop-head
invariant-loop-head l =
    (goal.iterator-loop-head).can_next l.head-iterator
    × (goal.iterator-loop-head).is_finite l.head-iterator
    ×
    (l.total + sum_by (λ h. h.end - h.start + 46) (take l.head-iterator.n l.head-iterator.iter)
    ≡ sum_by (λ h. h.end - h.start + 46) (without_terminal l.heads))
    × (l.total ≤ 500000000)
