use Rattle.std.proofs.Common.{codes}
use Rattle.std.specs.List.{flat_map}
use Rattle.script_grammar.specs.Operands.{pieces_of}
use Rattle.edit_script.specs.Grammar.{braced}
use Rattle.edit_script.specs.Printing.{text_of}
use Rattle.edit_script.proofs.PutLaws.{puts_all_braced}
use Rattle.script_comments.proofs.LineLaws.{puts_before}
use Rattle.script_comments.proofs.lines.put_group.Goals as goal

pub returns : goal.returns
unfolding text_of
returns g c =
    puts_before (codes "group") (pieces_of (flat_map braced c.args.steps.now)) c.put.ensures
    (puts_all_braced c.args.steps.now c.put_all_braced.ensures)
