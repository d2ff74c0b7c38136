use Rattle.std.proofs.Common.{[], ◌∷◌, ap, ◌∙◌}
use Rattle.std.specs.List.{flat_map}
use Rattle.std.proofs.lemmas.List.{append-nil}
use Rattle.base_outputs.proofs.OutputLaws.{puts_as}
use Rattle.script_tokens.specs.declared.printing.Piece.TheVariants.{Name}
use Rattle.script_tokens.specs.Printing.{spaced, name_text, piece_text}
use Rattle.show_findings.proofs.texts.put_name.Goals as goal

pub returns : goal.returns
unfolding piece_text
returns g c =
    puts_as (flat_map spaced (Name c.new.result ∷ [])) (32 ∷ name_text c.args.name.now)
    (append-nil (32 ∷ name_text c.new.result) ∙ ap (λ b. 32 ∷ name_text b) c.new.ensures) c.put_pieces.ensures
