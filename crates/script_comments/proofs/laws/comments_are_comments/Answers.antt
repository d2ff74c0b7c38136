use Rattle.script_comments.proofs.CommentLaws.{are_comments}
use Rattle.script_comments.proofs.laws.comments_are_comments.Goals as goal

pub returns : goal.returns
returns c = are_comments
