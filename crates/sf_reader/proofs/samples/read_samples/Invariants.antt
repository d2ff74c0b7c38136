use Rattle.std.proofs.Common.{◌≡◌, ◌++◌, map, take}
use Rattle.sample_view.specs.Words.{words}
use Rattle.bank_format.specs.Windows.{without_terminal}
use Rattle.bank_format.specs.Samples.{sample_read}
use Rattle.sf_reader.proofs.samples.read_samples.Given as goal

-- the samples so far and those of the remaining headers are all
abbrev pub invariant-loop-head : goal.invariant-loop-head
invariant-loop-head l =
    (goal.iterator-loop-head).can_next l.head-iterator
    × (goal.iterator-loop-head).is_finite l.head-iterator
    ×
    (l.samples.items ++ map (sample_read l.count (words l.smpl)) (take l.head-iterator.n l.head-iterator.iter)
    ≡ map (sample_read l.count (words l.smpl)) (without_terminal l.heads))
