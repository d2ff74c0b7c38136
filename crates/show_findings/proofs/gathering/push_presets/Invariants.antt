use Rattle.std.proofs.Common.{length, Some}
use Rattle.bank_changes.specs.declared.members.Owner.TheVariants as owner
use Rattle.show_findings.proofs.GatherLaws.{Options}
use Rattle.show_findings.proofs.gathering.push_presets.Given as goal

-- the remaining numbers are still to be added
abbrev pub invariant-loop-preset : goal.invariant-loop-preset
invariant-loop-preset l =
    Options (λ n. Some (owner.Preset n)) (length l.bank.presets) l.initial.found.items l.found.items l.preset
