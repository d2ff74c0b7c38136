use Rattle.std.proofs.Common.{[], ◌∷◌, ◌∙◌, length, ap, sym}
use Rattle.std.specs.Prelude.{codes}
use Rattle.std.specs.List.{flat_map}
use Rattle.base_outputs.proofs.OutputLaws.{puts_as, puts_then}
use Rattle.script_tokens.specs.declared.printing.Piece.TheVariants.{Number}
use Rattle.script_tokens.specs.Printing.{spaced}
use Rattle.script_grammar.specs.Operands.{pieces_of}
use Rattle.script_grammar.specs.Samples.{head_operands}
use Rattle.show_listing.specs.Listing.{sample_line}
use Rattle.show_listing.proofs.LineLaws.{line_parts}
use Rattle.show_listing.proofs.members.put_sample.Goals as goal

pub returns : goal.returns
unfolding sample_line
returns g c =
    let s = c.args.sample.now in
    let number = puts_as _ _ (ap (λ p. flat_map spaced (p ∷ [])) c.number_piece.ensures) c.put_pieces.ensures in
    let points =
    puts_as _ _ (ap (λ p. flat_map spaced (p ∷ [])) (c.number_piece-2.ensures ∙ ap Number c.len.ensures.value))
    c.put_pieces-2.ensures in
    puts_as _ _
    (sym
    (line_parts (codes "sample") (Number c.args.number ∷ []) (pieces_of (head_operands s))
    (Number (length s.points) ∷ [])))
    (puts_then _ _ c.put.ensures
    (puts_then _ _ number (puts_then _ _ c.put_sample_head.ensures (puts_then _ _ points c.put-2.ensures))))
