use Rattle.std.proofs.Common.{refl}
use Rattle.program_reports.proofs.details.details_of.Goals as goal

pub returns : goal.returns
returns c = (_, _, c.advice_on-advice.ensures, refl)
