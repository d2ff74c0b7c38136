-- Faults of a part as a run's fault.
use Rattle.sf_base.specs.declared.memory.Failure.{Failure}
use Rattle.sf_base.specs.declared.memory.Failure.TheVariants as failures
use Rattle.program_reports.specs.declared.run_fault.RunFault.{RunFault}
use Rattle.program_reports.specs.declared.run_fault.RunFault.TheVariants as run

-- a failure of a part, as the run's fault
abbrev pub in_run : {F : Type 0} → (F → RunFault) → Failure F → RunFault
in_run reported (failures.Fault fault) = reported fault
in_run reported failures.OutOfMemory = run.Memory
