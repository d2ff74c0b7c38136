use Rattle.std.proofs.Common.{◌∷◌, codes}
use Rattle.bank_parts.specs.declared.parts.Kind.TheVariants.{Mono}
use Rattle.bank_changes.specs.Points.{with_kind}
use Rattle.script_tokens.proofs.PrintLaws.{puts_line}
use Rattle.script_grammar.specs.Operands.{pieces_of}
use Rattle.script_grammar.specs.Samples.{body_operands}
use Rattle.script_grammar.proofs.PutLaws.{puts_body}
use Rattle.script_steps.specs.Members.{place}
use Rattle.script_steps.proofs.PutLaws.{puts_added}
use Rattle.edit_script.specs.Printing.{text_of}
use Rattle.script_of_bank.specs.BankScript.{selected_sample}
use Rattle.script_of_bank.proofs.samples.put_sample.Goals as goal

pub returns : goal.returns
unfolding text_of
returns g c =
    let s = with_kind Mono (selected_sample c.args.points c.args.sample.now) in
    puts_line (codes "add-sample") (pieces_of (place c.args.number ∷ body_operands s)) c.put.ensures
    (puts_added c.args.number s c.put_pieces.ensures (puts_body s c.put_mono_head.ensures c.put_selected_points.ensures))
    c.put-2.ensures
