use Rattle.std.proofs.Common.{◌≡◌, ◌<◌, ℕ, false}
use Rattle.plan_edits.specs.Playing.{is_number_of}
use Rattle.plan_edits.proofs.selected_zones.first_preset.Given as goal

-- no preset so far has the numbers
abbrev pub invariant-loop-preset : goal.invariant-loop-preset
invariant-loop-preset l = (j : ℕ) → j < l.preset → is_number_of l.fn.bank l.fn.note j ≡ false
