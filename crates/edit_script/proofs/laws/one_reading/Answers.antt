use Rattle.edit_script.proofs.CompletenessLaws.{one_reading}
use Rattle.edit_script.proofs.laws.one_reading.Goals as goal

pub returns : goal.returns
returns c = one_reading
