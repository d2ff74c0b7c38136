use Rattle.show_findings.specs.Repairs.{repair}
use Rattle.show_findings.proofs.repairs.put_repair.Goals as goal

pub returns-in-UnusedSample : goal.returns-in-UnusedSample
unfolding repair
returns-in-UnusedSample g c = rw c.in-UnusedSample.is c.put_numbered-in-UnusedSample.ensures
