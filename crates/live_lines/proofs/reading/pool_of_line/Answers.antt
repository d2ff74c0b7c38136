use Rattle.live_lines.proofs.RequestLaws.{bad_line}
use Rattle.live_lines.proofs.reading.pool_of_line.Goals as goal

pub returns-in-Err-Fault-clause-fault : goal.returns-in-Err-Fault-clause-fault
returns-in-Err-Fault-clause-fault c =
    bad_line c.args.line.now c.in-Err-Fault.field-0-0 c.requires
    (rw c.in-Err-Fault.field-0-is at c.in-Err-Fault.ensures)
