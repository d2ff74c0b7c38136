use Rattle.std.proofs.Common.{◌≡◌, drop, not}
use Rattle.std.specs.List.{find}
use Rattle.plan_presets.specs.declared.numbers.PresetNumbers.{PresetNumbers}
use Rattle.plan_take.specs.Taking.{has_preset}
use Rattle.plan_copy.specs.Copying.{candidates, free_numbers}
use Rattle.plan_copy.proofs.numbers.free_numbers.Given as goal

-- none of the candidates so far is free
abbrev pub invariant-loop-n : goal.invariant-loop-n
invariant-loop-n l =
    free_numbers l.bank l.original
    ≡ find (λ (k : PresetNumbers). not (has_preset l.bank.presets k)) (drop l.n (candidates l.original))
