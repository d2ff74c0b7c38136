use Rattle.script_of_bank.proofs.Law.{anywhere}
use Rattle.script_of_bank.proofs.laws.edits_lead_anywhere.Goals as goal

pub returns : goal.returns
returns c = anywhere
