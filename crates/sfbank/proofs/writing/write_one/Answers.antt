use Rattle.std.proofs.Common.{refl}
use Rattle.sfbank.proofs.writing.write_one.Goals as goal

pub returns-in-Err : goal.returns-in-Err
returns-in-Err g c = (refl, c.in-Err.ensures.0, c.in-Err.ensures.1)
