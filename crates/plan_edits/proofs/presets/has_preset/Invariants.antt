use Rattle.std.proofs.Common.{◌≡◌, ◌==◌, ◌&&◌, drop}
use Rattle.std.specs.List.{list_any}
use Rattle.bank_parts.specs.declared.parts.Head.{Head}
use Rattle.bank_parts.specs.declared.parts.ZoneOwner.{ZoneOwner}
use Rattle.plan_edits.specs.Keeping.{has_preset}
use Rattle.plan_edits.proofs.presets.has_preset.Given as goal

-- no preset so far has these numbers
abbrev pub invariant-loop-preset : goal.invariant-loop-preset
invariant-loop-preset l =
    has_preset l.fn.bank l.fn.numbers
    ≡ list_any (λ (p : ZoneOwner Head). p.head.bank == l.fn.numbers.bank && p.head.number == l.fn.numbers.number)
    (drop l.preset l.fn.bank.presets)
