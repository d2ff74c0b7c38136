use Rattle.std.specs.Prelude.{length}
use Rattle.std.specs.Option.{option_map}
use Rattle.bank_changes.specs.Members.{head_of}
use Rattle.show_findings.specs.Presets.{key_of}
use Rattle.show_findings.proofs.GatherLaws.{Options}
use Rattle.show_findings.proofs.hidden.keys_of.Given as goal

-- the keys of the remaining presets are still to be added
abbrev pub invariant-loop-preset : goal.invariant-loop-preset
invariant-loop-preset l =
    Options (λ p. option_map key_of (head_of l.bank p)) (length l.bank.presets) l.initial.keys.items l.keys.items
    l.preset
