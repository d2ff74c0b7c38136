use Rattle.script_of_bank.proofs.Law.{whole}
use Rattle.script_of_bank.proofs.laws.edits_give_bank.Goals as goal

pub returns : goal.returns
returns c = whole
