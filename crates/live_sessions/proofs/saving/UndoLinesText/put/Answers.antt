use Rattle.std.proofs.Common.{◌-◌, take, arith}
use Rattle.base_outputs.proofs.OutputLaws.{putting_step}
use Rattle.edit_script.specs.Printing.{text_of}
use Rattle.live_sessions.specs.Saved.{undo_text}
use Rattle.live_sessions.proofs.Backward.{next_back}
use Rattle.live_sessions.proofs.saving.UndoLinesText.put.Goals as goal

pub loop-remaining-preserved : goal.loop-remaining-preserved
loop-remaining-preserved g c = record {
  within = omega arith;
  put =
      putting_step (text_of c.index-back-remaining.result) (undo_text (take (c.loop-remaining.remaining - 1) c.args.self.now.0.now))
      c.loop-remaining.invariant.put
      (next_back c.args.self.now.0.now c.loop-remaining.remaining (c.loop-remaining.remaining - 1) c.index-back-remaining.result (omega arith)
      (omega arith) c.index-back-remaining.is)
      c.put_edit.ensures;
}
