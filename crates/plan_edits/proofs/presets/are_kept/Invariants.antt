use Rattle.std.proofs.Common.{◌≡◌, ℕ, ◌<◌, true, Some, slice_get}
use Rattle.bank_parts.specs.declared.parts.Head.{Head}
use Rattle.bank_parts.specs.declared.parts.ZoneOwner.{ZoneOwner}
use Rattle.plan_edits.specs.Keeping.{is_kept}
use Rattle.plan_edits.proofs.presets.are_kept.Given as goal

-- the presets so far are kept
abbrev pub invariant-loop-preset : goal.invariant-loop-preset
invariant-loop-preset l =
    (i : ℕ) → i < l.preset → (p : ZoneOwner Head) → slice_get l.fn.bank.presets i ≡ Some p → is_kept l.fn.kept.keys p ≡ true
