use Rattle.base_outputs.proofs.OutputLaws.{puts_then}
use Rattle.live_sessions.proofs.answering.AnswerTextText.put.Goals as goal

pub returns : goal.returns
returns g c = puts_then _ _ c.put_preamble.ensures c.put_answer.ensures
