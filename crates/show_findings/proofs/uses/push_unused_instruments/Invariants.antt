use Rattle.std.proofs.Common.{length}
use Rattle.show_findings.specs.Uses.{unused_instrument}
use Rattle.show_findings.proofs.GatherLaws.{Options}
use Rattle.show_findings.proofs.uses.push_unused_instruments.Given as goal

-- the options of the remaining numbers are still to be added
abbrev pub invariant-loop-instrument : goal.invariant-loop-instrument
invariant-loop-instrument l =
    Options (unused_instrument l.bank) (length l.bank.instruments) l.initial.found.items l.found.items l.instrument
