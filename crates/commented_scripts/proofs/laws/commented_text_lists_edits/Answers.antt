use Rattle.commented_scripts.proofs.CommentedLaws.{lists}
use Rattle.commented_scripts.proofs.laws.commented_text_lists_edits.Goals as goal

pub returns : goal.returns
returns c = lists
