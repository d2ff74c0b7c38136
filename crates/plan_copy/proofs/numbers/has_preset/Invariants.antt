use Rattle.std.proofs.Common.{◌≡◌, drop}
use Rattle.plan_take.specs.Taking.{preset_with}
use Rattle.plan_copy.proofs.numbers.has_preset.Given as goal

-- none of the presets so far has the numbers
abbrev pub invariant-loop-i : goal.invariant-loop-i
invariant-loop-i l = preset_with l.presets l.numbers ≡ preset_with (drop l.i l.presets) l.numbers
