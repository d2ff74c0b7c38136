use Rattle.script_grammar.specs.Operands.{pieces_of}
use Rattle.script_steps.specs.Grammar.{word_of, operands}
use Rattle.edit_script.specs.Printing.{text_of}
use Rattle.script_comments.proofs.LineLaws.{puts_before}
use Rattle.script_comments.proofs.lines.put_one.Goals as goal

pub returns : goal.returns
unfolding text_of
returns g c =
    puts_before (word_of c.args.step.now) (pieces_of (operands c.args.step.now))
    (rw c.word_of.ensures at c.put.ensures) c.put_operands.ensures
