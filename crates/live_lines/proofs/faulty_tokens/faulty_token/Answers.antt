use Rattle.live_lines.proofs.CommentLaws.{part_shown}
use Rattle.live_lines.proofs.faulty_tokens.faulty_token.Goals as goal

pub returns : goal.returns
returns c = part_shown _ _ _ _ _ c.part_of.ensures c.of.ensures
