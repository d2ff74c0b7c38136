use Rattle.edit_script.proofs.PutLaws.{puts_braced}
use Rattle.script_comments.proofs.lines.put_braced.Goals as goal

pub returns : goal.returns
returns g c =
    puts_braced c.args.step.now (rw (c.new.ensures, c.new-2.ensures, c.word_of.ensures) at c.put_pieces.ensures)
    c.put_operands.ensures (rw c.new-3.ensures at c.put_pieces-2.ensures)
