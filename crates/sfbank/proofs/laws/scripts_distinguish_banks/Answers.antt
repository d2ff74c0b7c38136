use Rattle.sfbank.proofs.BankScripts.{distinguishes}
use Rattle.sfbank.proofs.laws.scripts_distinguish_banks.Goals as goal

pub returns : goal.returns
returns c = distinguishes
