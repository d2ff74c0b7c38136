use Rattle.script_of_bank.proofs.PrintedLaws.{text_determines}
use Rattle.script_of_bank.proofs.laws.text_determines_bank.Goals as goal

pub returns : goal.returns
returns c = text_determines
