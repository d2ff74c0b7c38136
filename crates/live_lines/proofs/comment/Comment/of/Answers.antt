use Rattle.live_lines.proofs.CommentLaws.{front_few, front_shown}
use Rattle.live_lines.proofs.comment.Comment.of.Goals as goal

pub cut-requires : goal.cut-requires
cut-requires c = front_few _ _ c.front_of.ensures

pub returns-else-text-le-LONGEST : goal.returns-else-text-le-LONGEST
returns-else-text-le-LONGEST c = front_shown _ _ _ c.front_of.ensures c.cut.ensures
