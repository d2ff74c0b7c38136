use Rattle.script_comments.proofs.LineLaws.{empty_comments}
use Rattle.script_comments.proofs.laws.empty_comments_are_none.Goals as goal

pub returns : goal.returns
returns c = empty_comments
