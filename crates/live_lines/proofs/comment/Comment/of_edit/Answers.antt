use Rattle.std.proofs.Common.{List, ℕ, ◌++◌, take, ap, ◌∙◌}
use Rattle.edit_script.specs.Printing.{text_of}
use Rattle.live_lines.proofs.CommentLaws.{front_few, edit_shown}
use Rattle.live_lines.proofs.comment.Comment.of_edit.Goals as goal

pub cut-requires : goal.cut-requires
cut-requires c = front_few _ _ c.front_of.ensures

pub returns-in-Err : goal.returns-in-Err
returns-in-Err c =
    let text : List ℕ = text_of c.args.edit.now in
    let written : ℕ = c.in-Err.field-0.written in
    let stopped = c.in-Err.ensures in
    edit_shown text c.print.new.out.items c.front_of.result.now c.cut.result written stopped.0
    (stopped.1 ∙ ap (λ (xs : List ℕ). xs ++ take written text) c.new-front.ensures)
    (c.front_of.ensures ∙ ap (take 120) c.as_slice-in-Err.ensures.value) c.cut.ensures
