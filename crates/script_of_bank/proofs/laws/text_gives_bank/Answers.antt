use Rattle.script_of_bank.proofs.PrintedLaws.{text_gives}
use Rattle.script_of_bank.proofs.laws.text_gives_bank.Goals as goal

pub returns : goal.returns
returns c = text_gives
