use Rattle.std.proofs.Common.{◌+◌, ℕ, List, drop, ap, sym, subst}
use Rattle.base_outputs.proofs.OutputLaws.{Putting, puts_as, putting_step}
use Rattle.script_comments.specs.Along.{pieces}
use Rattle.script_comments.specs.Lines.{commented_line, first_comment, commented_in_turn}
use Rattle.script_comments.proofs.LineLaws.{turn_at}
use Rattle.script_comments.proofs.along.CommentedLinesText.put.Goals as goal

pub loop-edit-preserved : goal.loop-edit-preserved
loop-edit-preserved g c =
    let es = c.args.self.now.edits.now in
    let whole = commented_in_turn es (pieces c.as_slice-lengths.result.now c.as_slice-bytes.result.now) in
    let cs = pieces c.loop-edit.lengths.now c.loop-edit.bytes.now in
    let i = c.loop-edit.edit-index in
    let e = c.edit-item.result in
    let line = puts_as _ _ (ap (λ (comment : List ℕ). commented_line e comment) c.first_comment.ensures.first)
    c.put_commented.ensures in
    subst
    (λ (others : List (List ℕ)). Putting g.W.Write.contents c.args.output.now c.put_commented.new.output whole
    (commented_in_turn (drop (i + 1) es) others))
    (sym c.first_comment.ensures.others)
    (putting_step (commented_line e (first_comment cs)) _ c.loop-edit.invariant
    (turn_at es i e cs c.loop-edit-test.true c.edit-item.is) line)
