use Rattle.std.proofs.Common.{[], ◌∷◌, codes}
use Rattle.script_tokens.proofs.PrintLaws.{puts_line}
use Rattle.script_grammar.specs.Operands.{pieces_of}
use Rattle.script_grammar.specs.Samples.{kind_operands}
use Rattle.script_grammar.proofs.PutLaws.{puts_both}
use Rattle.script_steps.specs.Members.{place}
use Rattle.edit_script.specs.Printing.{text_of}
use Rattle.script_of_bank.proofs.links.put_set_kind.Goals as goal

pub returns : goal.returns
unfolding text_of
returns g c =
    puts_line (codes "set-kind") (pieces_of (place c.args.number ∷ kind_operands c.args.kind)) c.put.ensures
    (puts_both (place c.args.number ∷ []) (kind_operands c.args.kind) c.put_pieces.ensures c.put_kind.ensures)
    c.put-2.ensures
