use Rattle.std.proofs.Common.{codes}
use Rattle.std.specs.List.{flat_map}
use Rattle.script_tokens.proofs.PrintLaws.{puts_line}
use Rattle.script_grammar.specs.Operands.{pieces_of}
use Rattle.edit_script.specs.Grammar.{braced}
use Rattle.edit_script.specs.Printing.{text_of}
use Rattle.edit_script.proofs.PutLaws.{puts_all_braced}
use Rattle.edit_script.proofs.edits.put_group.Goals as goal

pub returns : goal.returns
unfolding text_of
returns g c =
    puts_line (codes "group") (pieces_of (flat_map braced c.args.steps.now)) c.put.ensures
    (puts_all_braced c.args.steps.now c.put_all_braced.ensures) c.put-2.ensures
