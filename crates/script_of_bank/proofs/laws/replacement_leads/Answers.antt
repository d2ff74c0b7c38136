use Rattle.script_of_bank.proofs.PrintedLaws.{replaces}
use Rattle.script_of_bank.proofs.laws.replacement_leads.Goals as goal

pub returns : goal.returns
returns c = replaces
