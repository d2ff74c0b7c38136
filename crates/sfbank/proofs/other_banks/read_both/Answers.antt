use Rattle.bank_format.specs.ReadChecks.{fault_of}
use Rattle.program_reports.specs.declared.run_fault.RunFault.TheVariants.{ReadFrom}
use Rattle.sfbank.specs.Differences.{after_file}
use Rattle.sfbank.proofs.OutcomeLaws.{bank_fails}
use Rattle.sfbank.proofs.BankPairs.{other_fails}
use Rattle.sfbank.proofs.other_banks.read_both.Goals as goal

pub returns-in-Ok-read : goal.returns-in-Ok-read
returns-in-Ok-read c =
    ((c.in-Ok._counts, c.in-Ok.ensures), (c.in-Ok-read._other_counts, c.in-Ok-read.ensures.ok))

pub returns-in-Ok : goal.returns-in-Ok
returns-in-Ok c rest =
    rw c.of_from.ensures
    (other_fails c.in-Err-read.failure c.args.file.now c.args.other.now c.in-Ok.bank rest (c.in-Ok._counts, c.in-Ok.ensures)
    c.in-Err-read.ensures.err)

pub returns : goal.returns
returns c rest =
    let other = c.args.other.now in
    bank_fails (λ both. both) c.in-Err.fault c.args.file.now (after_file ReadFrom (fault_of other) rest) c.in-Err.ensures
