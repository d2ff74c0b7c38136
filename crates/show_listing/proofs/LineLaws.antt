-- A line written in parts.
use Rattle.std.proofs.Common.{◌≡◌, ℕ, List, [], ◌∷◌, ◌++◌, ap, ◌∙◌, append_assoc}
use Rattle.std.specs.List.{flat_map}
use Rattle.std.proofs.lemmas.List.Concat.{flat_map-append}
use Rattle.script_tokens.specs.declared.printing.Piece.{Piece}
use Rattle.script_tokens.specs.Printing.{spaced, line_text}
use Rattle.script_tokens.proofs.PrintLaws.{line_spaced}

-- the pieces in three parts
pub line_parts : (w : List ℕ) (a b c : List Piece)
    → line_text w (a ++ (b ++ c)) ≡ w ++ (flat_map spaced a ++ (flat_map spaced b ++ (flat_map spaced c ++ 10 ∷ [])))
line_parts w a b c =
    let x = flat_map spaced a in
    let y = flat_map spaced b in
    let z = flat_map spaced c in
    line_spaced w (a ++ (b ++ c))
    ∙ ap (λ (t : List ℕ). (w ++ t) ++ 10 ∷ [])
    (flat_map-append spaced a (b ++ c) ∙ ap (λ (t : List ℕ). x ++ t) (flat_map-append spaced b c))
    ∙ append_assoc w (x ++ (y ++ z)) (10 ∷ [])
    ∙ ap (λ (t : List ℕ). w ++ t)
    (append_assoc x (y ++ z) (10 ∷ []) ∙ ap (λ (t : List ℕ). x ++ t) (append_assoc y z (10 ∷ [])))
