use Rattle.script_of_bank.proofs.ListedLaws.{text_lists}
use Rattle.script_of_bank.proofs.laws.text_lists_edits.Goals as goal

pub returns : goal.returns
returns c = text_lists
