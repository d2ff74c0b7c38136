-- Slices after blanks, where one slice is shortened.
use Rattle.std.proofs.Common.{◌≡◌, ℕ, ◌+◌, ◌-◌, ◌*◌, ◌/◌, ◌<◌, ◌≤◌, List, [], ◌∷◌, ◌++◌, length, get_or, take, drop}
use Rattle.std.proofs.Common.{ap, sym, ◌∙◌, arith, length-drop, subst}
use Rattle.std.specs.Prelude.{All, slice_set, slice_range}
use Rattle.std.specs.Borrow.{Bor}
use Rattle.std.proofs.Math.Seq.{take-set-lt}
use Rattle.std.proofs.lemmas.List.{drop-set, drop-set-add, drop-drop, get_or-drop, get_or-take, take_more_set, drop-take}
use Rattle.std.proofs.lemmas.List.Elements.{All-get_or}
use Rattle.sample_view.specs.Words.{words}
use Rattle.sample_view.specs.Pieces.{joined, IsPiece}
use Rattle.sample_view.specs.Cuts.{IsCut, IsInside, IsFilled}
use Rattle.sample_view.proofs.CutLaws.{part_is_piece, front_removed, back_removed}

-- The slices from one on, which is replaced.
front_slots : (slots : List (Bor (List ℕ))) (b k : ℕ) (p : Bor (List ℕ)) → k < length (drop b slots)
    → drop (b + k) (slice_set slots (b + k) p) ≡ p ∷ drop (k + 1) (drop b slots)
front_slots slots b k p h =
    let order : b + k + 1 ≡ b + (k + 1) = omega arith in
    drop-set slots (b + k) p (omega (arith, length-drop b slots))
    ∙ ap (λ t. p ∷ t) (ap (λ n. drop n slots) order ∙ sym (drop-drop (k + 1) b slots))

-- The slices up to one, which is replaced.
back_slots : (slots : List (Bor (List ℕ))) (b k : ℕ) (p : Bor (List ℕ)) → k < length (drop b slots)
    → drop b (slice_set (take (b + k + 1) slots) (b + k) p) ≡ take k (drop b slots) ++ p ∷ []
back_slots slots b k p h =
    let order : b + k + 1 ≡ b + (k + 1) = omega arith in
    drop-set-add b (take (b + k + 1) slots) k p
    ∙ ap (λ t. slice_set t k p) (ap (λ n. drop b (take n slots)) order ∙ drop-take b (k + 1) slots)
    ∙ sym (take-set-lt (k + 1) (drop b slots) k p (omega arith))
    ∙ take_more_set (drop b slots) k p h

-- Slots whose first slices are removed, the next one in part.
pub front_stored : (slots ps qs : List (Bor (List ℕ))) (b count k position n : ℕ) (p old d : Bor (List ℕ))
    → drop b slots ≡ ps → qs ≡ ps → All IsPiece ps → IsCut qs count k position → IsInside qs k position
    → old ≡ get_or slots (b + k) d → n ≡ length old.now / 2 - position
    → p.now ≡ slice_range old.now (2 * position) (2 * (position + n))
    → words p.now ≡ take n (drop position (words old.now))
    → All IsPiece (drop (b + k) (slice_set slots (b + k) p))
    × (joined (drop (b + k) (slice_set slots (b + k) p)) ≡ drop count (joined ps))
front_stored slots ps qs b count k position n p old d v q a cut inside o size bytes points =
    let at_is : old ≡ get_or ps k d = o ∙ sym (get_or-drop b slots k d) ∙ ap (λ t. get_or t k d) v in
    let cut' : IsCut ps count k position = subst (λ t. IsCut t count k position) q cut in
    let within : 2 * position + 1 < length (get_or ps k d).now =
    subst (λ t. 2 * position + 1 < length (get_or t k d).now) q (inside d) in
    let there : k < length (drop b slots) = subst (λ t. k < length t) (sym v) cut'.there in
    let size' : n ≡ length (get_or ps k d).now / 2 - position = rw (← at_is) size in
    let bytes' : p.now ≡ slice_range (get_or ps k d).now (2 * position) (2 * (position + n)) = rw (← at_is) bytes in
    let points' : words p.now ≡ take (length (get_or ps k d).now / 2 - position) (drop position (words (get_or ps k d).now)) =
    rw (← at_is, ← size) points in
    let piece =
    part_is_piece (get_or ps k d) p position n (All-get_or IsPiece ps k d cut'.there a) (omega (arith, within, size'))
    (omega (arith, within, size')) bytes' in
    let removed = front_removed ps count k position p d a cut' (omega (arith, within)) piece points' in
    let slots_is : drop (b + k) (slice_set slots (b + k) p) ≡ p ∷ drop (k + 1) ps =
    front_slots slots b k p there ∙ ap (λ t. p ∷ drop (k + 1) t) v in
    rw slots_is removed

-- Slots whose last slices are removed, the one before them in part.
pub back_stored : (slots kept ps qs : List (Bor (List ℕ))) (b count k position : ℕ) (p old d : Bor (List ℕ))
    → drop b slots ≡ ps → qs ≡ ps → kept ≡ take (b + k + 1) slots → All IsPiece ps → IsCut qs (length (joined qs) - count) k position
    → IsFilled qs k position
    → old ≡ get_or kept (b + k) d → p.now ≡ slice_range old.now (2 * 0) (2 * (0 + position))
    → words p.now ≡ take position (words old.now)
    → All IsPiece (drop b (slice_set kept (b + k) p))
    × (joined (drop b (slice_set kept (b + k) p)) ≡ take (length (joined ps) - count) (joined ps))
back_stored slots kept ps qs b count k position p old d v q t a cut filled o bytes points =
    let some = filled.some in
    let n = length (joined ps) - count in
    let cut' : IsCut ps n k position = subst (λ l. IsCut l (length (joined l) - count) k position) q cut in
    let within : 2 * position ≤ length (get_or ps k d).now =
    subst (λ l. 2 * position ≤ length (get_or l k d).now) q (filled.inside d) in
    let there : k < length (drop b slots) = subst (λ l. k < length l) (sym v) cut'.there in
    let at_is : old ≡ get_or ps k d =
    o ∙ ap (λ l. get_or l (b + k) d) t ∙ get_or-take (b + k + 1) slots (b + k) d (omega arith)
    ∙ sym (get_or-drop b slots k d) ∙ ap (λ l. get_or l k d) v in
    let bytes' : p.now ≡ slice_range (get_or ps k d).now (2 * 0) (2 * (0 + position)) = rw (← at_is) bytes in
    let points' : words p.now ≡ take position (words (get_or ps k d).now) = rw (← at_is) points in
    let piece = part_is_piece (get_or ps k d) p 0 position (All-get_or IsPiece ps k d cut'.there a) (omega (arith, within)) some bytes' in
    let removed = back_removed ps n k position p d a cut' (omega (arith, within)) piece points' in
    let slots_is : drop b (slice_set kept (b + k) p) ≡ take k ps ++ p ∷ [] =
    ap (λ l. drop b (slice_set l (b + k) p)) t ∙ back_slots slots b k p there ∙ ap (λ l. take k l ++ p ∷ []) v in
    rw slots_is removed
