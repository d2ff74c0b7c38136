use Rattle.std.proofs.Common.{◌≡◌, ◌++◌}
use Rattle.sf_reader.proofs.records.push_mods.Given as goal

-- the modulators so far and the remaining ones are all
abbrev pub invariant-loop-modulator : goal.invariant-loop-modulator
invariant-loop-modulator l =
    (goal.iterator-loop-modulator).can_next l.modulator-iterator
    × (goal.iterator-loop-modulator).is_finite l.modulator-iterator
    × (l.mods.items ++ l.modulator-iterator ≡ l.fn.mods.items ++ l.modulators)
