use Rattle.std.proofs.Common.{sym}
use Rattle.sfbank.proofs.program.import.import_as.Goals as goal

pub returns : goal.returns
returns g c request printed h = c.import_named.ensures request printed (rw (sym c.bytes.ensures.value) at h)
