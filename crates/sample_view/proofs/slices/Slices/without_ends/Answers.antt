use Rattle.std.proofs.Common.{◌≡◌, ◌≤◌, ◌+◌, ◌-◌, ◌*◌, ◌/◌, ◌∙◌, ℕ, List, [], ap, append-nil, arith, length, subst}
use Rattle.std.specs.Prelude.{All}
use Rattle.std.specs.Borrow.{Bor}
use Rattle.std.proofs.lemmas.List.Elements.{All-cons, All-head, All-nil}
use Rattle.sample_view.specs.Words.{words}
use Rattle.sample_view.specs.Pieces.{joined, IsPiece}
use Rattle.sample_view.specs.Slices.{pieces_of}
use Rattle.sample_view.specs.declared.slices.Slices.{Slices}
use Rattle.sample_view.specs.declared.slices.Slices.TheVariants.{One}
use Rattle.sample_view.proofs.WordLaws.{length-words}
use Rattle.sample_view.proofs.CutLaws.{part_is_piece}
use Rattle.sample_view.proofs.slices.Slices.without_ends.Goals as goal

-- The points that remain are in the slice.
remaining_inside : (slices : Slices) (bytes : Bor (List ℕ)) (front back count : ℕ) → slices ≡ One bytes
    → count ≡ length (joined (pieces_of slices)) → front + back ≤ length (joined (pieces_of slices))
    → 2 * (front + (count - front - back)) ≤ length bytes.now
remaining_inside slices bytes front back count e total inside =
    let total' : length (joined (pieces_of slices)) ≡ length bytes.now / 2 =
    ap (λ s. length (joined (pieces_of s))) e ∙ ap length (append-nil (words bytes.now)) ∙ length-words bytes.now in
    omega (arith, total, total', inside)

pub part-requires : goal.part-requires
part-requires c = record { inside = remaining_inside _ _ _ _ _ c.in-One.is c.count.ensures c.requires.inside }

pub returns-in-One-clause-pieces : goal.returns-in-One-clause-pieces
returns-in-One-clause-pieces c =
    let some = c.if-count-eq0.false in
    let inside = remaining_inside _ _ _ _ _ c.in-One.is c.count.ensures c.requires.inside in
    let old = All-head IsPiece c.in-One.bytes [] (subst (λ s. All IsPiece (pieces_of s)) c.in-One.is c.requires.pieces) in
    All-cons IsPiece c.part.result []
    (part_is_piece c.in-One.bytes c.part.result _ _ old inside (omega (arith, some)) c.part.ensures.bytes)
    (All-nil IsPiece)
