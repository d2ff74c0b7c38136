use Rattle.live_lines.specs.Answers.{answer_text}
use Rattle.live_lines.proofs.answer.put_answer.Goals as goal

pub returns-in-NotNeutral : goal.returns-in-NotNeutral
unfolding answer_text
returns-in-NotNeutral g c = rw c.in-NotNeutral.is c.put_named.ensures
