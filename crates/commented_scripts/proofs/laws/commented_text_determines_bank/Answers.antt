use Rattle.commented_scripts.proofs.CommentedLaws.{determines}
use Rattle.commented_scripts.proofs.laws.commented_text_determines_bank.Goals as goal

pub returns : goal.returns
returns c = determines
