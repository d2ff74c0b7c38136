use Rattle.std.proofs.Common.{◌≡◌, ◌++◌, take, drop}
use Rattle.plan_take.specs.TakeFaults.{numbers_in, new_numbers, first_fault, preset_fault}
use Rattle.plan_take.proofs.checks.check_presets.Given as goal

-- the presets so far have no fault
abbrev pub invariant-loop-k : goal.invariant-loop-k
invariant-loop-k l =
    preset_fault l.fn.from l.fn.bank l.fn.presets
    ≡ first_fault l.fn.from (numbers_in l.fn.bank.presets ++ new_numbers (take l.k l.fn.presets)) (drop l.k l.fn.presets)
