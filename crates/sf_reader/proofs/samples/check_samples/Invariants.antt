use Rattle.std.proofs.Common.{◌≡◌, take}
use Rattle.std.specs.Prelude.{flat_map}
use Rattle.bank_format.specs.FaultChecks.{first_fault}
use Rattle.bank_format.specs.Windows.{without_terminal}
use Rattle.bank_format.specs.ReadChecks.{sample_checks}
use Rattle.sf_reader.proofs.samples.check_samples.Given as goal

-- the checks of the remaining headers determine the result
abbrev pub invariant-loop-head : goal.invariant-loop-head
invariant-loop-head l =
    (goal.iterator-loop-head).can_next l.head-iterator
    × (goal.iterator-loop-head).is_finite l.head-iterator
    ×
    (first_fault (flat_map (sample_checks l.points) (take l.head-iterator.n l.head-iterator.iter))
    ≡ first_fault (flat_map (sample_checks l.points) (without_terminal l.heads)))
