use Rattle.commented_scripts.proofs.CommentedLaws.{gives}
use Rattle.commented_scripts.proofs.laws.commented_text_gives_bank.Goals as goal

pub returns : goal.returns
returns c = gives
