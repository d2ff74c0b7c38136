use Rattle.std.proofs.Common.{◌≡◌, drop, map}
use Rattle.std.specs.List.Sorted.{IsPermutation}
use Rattle.bank_parts.specs.declared.parts.Parts.{Parts}
use Rattle.plan_take.specs.Sorted.{pair_of}
use Rattle.plan_take.specs.Merging.{first_shift_fault}
use Rattle.plan_take.proofs.merge_checks.first_fault.Given as goal

-- the presets so far can be added
abbrev pub invariant-loop-i : goal.invariant-loop-i
invariant-loop-i l =
    (b : Parts) → IsPermutation (map pair_of b.presets) l.fn.used
    → first_shift_fault b l.fn.shift l.fn.presets ≡ first_shift_fault b l.fn.shift (drop l.i l.fn.presets)
