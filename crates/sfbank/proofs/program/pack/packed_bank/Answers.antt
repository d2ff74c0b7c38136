use Rattle.std.proofs.Common.{refl}
use Rattle.program_reports.specs.declared.run_fault.RunFault.TheVariants as run
use Rattle.sfbank.proofs.program.pack.packed_bank.Goals as goal

pub returns-in-Ok-pack_bank : goal.returns-in-Ok-pack_bank
returns-in-Ok-pack_bank c = rw (c.as_slice.ensures.value, c.in-Ok.ensures) at c.in-Ok-pack_bank.ensures

pub returns-in-Ok : goal.returns-in-Ok
returns-in-Ok c =
    (c.in-Err-pack_bank.fault, (rw (c.as_slice.ensures.value, c.in-Ok.ensures) at c.in-Err-pack_bank.ensures), c.fault_of_recorded.ensures)

pub returns : goal.returns
returns c = (run.Memory, tt, refl)
