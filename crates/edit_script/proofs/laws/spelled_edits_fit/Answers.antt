use Rattle.edit_script.proofs.FitLaws.{spelled_fit}
use Rattle.edit_script.proofs.laws.spelled_edits_fit.Goals as goal

pub returns : goal.returns
returns c = spelled_fit
