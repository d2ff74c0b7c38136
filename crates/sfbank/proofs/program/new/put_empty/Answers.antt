use Rattle.std.proofs.Common.{refl}
use Rattle.program_reports.specs.declared.run_fault.RunFault.TheVariants as run
use Rattle.sfbank.specs.NewBanks.{new_outcome}
use Rattle.sfbank.specs.PlanParts.{Text}
use Rattle.sfbank.proofs.OutcomeLaws.{text_fails}
use Rattle.sfbank.proofs.program.new.put_empty.Goals as goal

pub returns-in-Ok : goal.returns-in-Ok
returns-in-Ok g c = rw c.in-Ok.ensures at (c.put.ensures (Text _) refl)

pub returns-in-Err : goal.returns-in-Err
returns-in-Err g c =
    text_fails (g.H.Host.world c.args.host.now) (g.O.Write.contents c.args.output.now)
    (g.H.Host.written c.args.host.now) c.args.bank.out run.Memory (new_outcome c.args.bank.minor) tt
