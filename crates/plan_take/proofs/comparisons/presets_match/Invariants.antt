use Rattle.std.proofs.Common.{◌≡◌, ℕ, ◌<◌, Some, slice_get}
use Rattle.plan_presets.specs.declared.numbers.TakenPreset.{TakenPreset}
use Rattle.plan_take.specs.Matches.{PresetsMatch}
use Rattle.plan_take.proofs.comparisons.presets_match.Given as goal

-- the presets so far match
abbrev pub invariant-loop-k : goal.invariant-loop-k
invariant-loop-k l =
    (m : ℕ) → m < l.k → (p : TakenPreset) → slice_get l.fn.presets m ≡ Some p
    → PresetsMatch l.fn.instruments l.fn.from l.fn.bank p
