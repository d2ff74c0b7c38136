use Rattle.std.proofs.Common.{◌-◌, length, drop}
use Rattle.bank_changes.specs.SampleNumbers.{AreNumbers}
use Rattle.bank_changes.proofs.sample_numbers.move_numbers.Given as goal

abbrev pub invariant-loop-done : goal.invariant-loop-done
invariant-loop-done l =
    AreNumbers (length l.initial.numbers) (drop (length l.moves - l.done) l.moves) l.numbers
