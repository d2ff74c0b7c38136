use Rattle.std.proofs.Common.{length, Some}
use Rattle.bank_changes.specs.declared.members.Owner.TheVariants as owner
use Rattle.show_findings.proofs.GatherLaws.{Options}
use Rattle.show_findings.proofs.gathering.push_instruments.Given as goal

-- the remaining numbers are still to be added
abbrev pub invariant-loop-instrument : goal.invariant-loop-instrument
invariant-loop-instrument l =
    Options (λ n. Some (owner.Inst n)) (length l.bank.instruments) l.initial.found.items l.found.items l.instrument
