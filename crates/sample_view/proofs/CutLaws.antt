-- Lists of slices, cut at a point.
use Rattle.std.proofs.Common.{◌≡◌, ℕ, ◌+◌, ◌-◌, ◌*◌, ◌/◌, ◌<◌, ◌≤◌, List, [], ◌∷◌, ◌++◌, length, get_or, take, drop}
use Rattle.std.proofs.Common.{ap, sym, ◌∙◌, arith, length-append, length-take, length-drop, append-nil, subst}
use Rattle.std.proofs.Common.{take-append-drop}
use Rattle.std.specs.Prelude.{All, slice_range}
use Rattle.std.specs.Borrow.{Bor}
use Rattle.std.proofs.lemmas.List.{drop_more, take_all, drop_all}
use Rattle.std.proofs.lemmas.List.Concat.{flat_map-append}
use Rattle.std.proofs.lemmas.List.Elements.{All-cons, All-push, All-take, All-drop}
use Rattle.std.proofs.lemmas.Slice.{between_from_start, between_to_end}
use Rattle.sample_view.specs.Words.{words}
use Rattle.sample_view.specs.Pieces.{joined, IsPiece}
use Rattle.sample_view.specs.Cuts.{IsCut, IsInside}
use Rattle.sample_view.proofs.WordLaws.{length-words}
use Rattle.sample_view.proofs.PieceLaws.{joined-split, joined-push}
use Rattle.sample_view.proofs.CopyLaws.{drop-append, take-append}

abbrev IsByte : ℕ → Type 0
IsByte b = b < 256

-- A part of a slice of points, with at least one point.
pub part_is_piece : (q p : Bor (List ℕ)) (start n : ℕ) → IsPiece q → 2 * (start + n) ≤ length q.now → 0 < n
    → p.now ≡ slice_range q.now (2 * start) (2 * (start + n)) → IsPiece p
part_is_piece q p start n piece inside some e =
    let size : length p.now ≡ 2 * n =
    omega (
      arith,
      inside,
      ap length e,
      length-take (2 * (start + n) - 2 * start) (drop (2 * start) q.now),
      length-drop (2 * start) q.now,
    ) in
    record {
      filled = omega (arith, size, some);
      even = omega (arith, size);
      bytes = subst (All IsByte) (sym e)
          (All-take IsByte _ _ (All-drop IsByte (2 * start) q.now piece.bytes));
    }

-- The slices before one and those from it on.
pub joined-parts : (ps : List (Bor (List ℕ))) (i : ℕ) → joined ps ≡ joined (take i ps) ++ joined (drop i ps)
joined-parts ps i =
    ap joined (sym (take-append-drop i ps)) ∙ flat_map-append (λ q. words q.now) (take i ps) (drop i ps)

-- The points from a slice on.
pub joined-drop_more : (ps : List (Bor (List ℕ))) (i : ℕ) (d : Bor (List ℕ)) → i < length ps
    → length (joined (drop i ps)) ≡ length (get_or ps i d).now / 2 + length (joined (drop (i + 1) ps))
joined-drop_more ps i d h =
    let e : joined (drop i ps) ≡ words (get_or ps i d).now ++ joined (drop (i + 1) ps) = ap joined (drop_more ps i d h) in
    omega (
      arith,
      ap length e,
      length-append (words (get_or ps i d).now) (joined (drop (i + 1) ps)),
      length-words (get_or ps i d).now,
    )

-- The slice before the last ones has the point before the last ones.
pub cut_found : (ps : List (Bor (List ℕ))) (i k skip count : ℕ) (d : Bor (List ℕ)) → k + 1 ≡ length ps - i → i < length ps
    → length (joined (drop (length ps - i) ps)) + skip ≡ count → skip < length (get_or ps k d).now / 2
    → IsCut ps (length (joined ps) - count) k (length (get_or ps k d).now / 2 - skip)
cut_found ps i k skip count d e h sum lt =
    let there : k < length ps = omega arith in
    let sum' : length (joined (drop (k + 1) ps)) + skip ≡ count = rw e sum in
    record {
      there = there;
      sum = omega (
        arith,
        sum',
        lt,
        joined-drop_more ps k d there,
        ap length (joined-parts ps k),
        length-append (joined (take k ps)) (joined (drop k ps)),
      );
    }

-- One more slice from the end.
pub later-next : (ps : List (Bor (List ℕ))) (i k skip count : ℕ) (d : Bor (List ℕ)) → k + 1 ≡ length ps - i → i < length ps
    → length (joined (drop (length ps - i) ps)) + skip ≡ count → length (get_or ps k d).now / 2 ≤ skip
    → length (joined (drop (length ps - (i + 1)) ps)) + (skip - length (get_or ps k d).now / 2) ≡ count
later-next ps i k skip count d e h sum le =
    let there : k < length ps = omega arith in
    let k_is : length ps - (i + 1) ≡ k = omega arith in
    let sum' : length (joined (drop (k + 1) ps)) + skip ≡ count = rw e sum in
    rw k_is (omega (arith, sum', le, joined-drop_more ps k d there))

-- The points after a cut.
pub front_removed : (ps : List (Bor (List ℕ))) (count k position : ℕ) (p d : Bor (List ℕ)) → All IsPiece ps
    → IsCut ps count k position → position ≤ length (get_or ps k d).now / 2 → IsPiece p
    → words p.now ≡ take (length (get_or ps k d).now / 2 - position) (drop position (words (get_or ps k d).now))
    → All IsPiece (p ∷ drop (k + 1) ps) × (joined (p ∷ drop (k + 1) ps) ≡ drop count (joined ps))
front_removed ps count k position p d a cut le piece e =
    let before = joined (take k ps) in
    let here = words (get_or ps k d).now in
    let after = joined (drop (k + 1) ps) in
    let sum = cut.sum in
    let count_here = length-words (get_or ps k d).now in
    let passed : drop count before ≡ [] = drop_all count before (omega (arith, sum)) in
    let skip : count - length before ≡ position = omega (arith, sum) in
    let none : position - length here ≡ 0 = omega (arith, count_here) in
    let kept : words p.now ≡ drop position here =
    e ∙ take_all _ (drop position here) (omega (arith, length-drop position here, count_here)) in
    let dropped : drop count (before ++ (here ++ after)) ≡ drop position here ++ after =
    drop-append count before (here ++ after)
    ∙ ap (λ t. t ++ drop (count - length before) (here ++ after)) passed
    ∙ ap (λ n. drop n (here ++ after)) skip
    ∙ drop-append position here after
    ∙ ap (λ n. drop position here ++ drop n after) none in (
      All-cons IsPiece p (drop (k + 1) ps) piece (All-drop IsPiece (k + 1) ps a),
      ap (λ t. t ++ after) kept ∙ sym (ap (drop count) (joined-split ps k d cut.there) ∙ dropped),
    )

-- The points before a cut.
pub back_removed : (ps : List (Bor (List ℕ))) (n k position : ℕ) (p d : Bor (List ℕ)) → All IsPiece ps
    → IsCut ps n k position → position ≤ length (get_or ps k d).now / 2 → IsPiece p
    → words p.now ≡ take position (words (get_or ps k d).now)
    → All IsPiece (take k ps ++ p ∷ []) × (joined (take k ps ++ p ∷ []) ≡ take n (joined ps))
back_removed ps n k position p d a cut le piece e =
    let before = joined (take k ps) in
    let here = words (get_or ps k d).now in
    let after = joined (drop (k + 1) ps) in
    let sum = cut.sum in
    let count_here = length-words (get_or ps k d).now in
    let passed : take n before ≡ before = take_all n before (omega (arith, sum)) in
    let rest : n - length before ≡ position = omega (arith, sum) in
    let none : position - length here ≡ 0 = omega (arith, count_here) in
    let shown : take n (before ++ (here ++ after)) ≡ before ++ take position here =
    take-append n before (here ++ after)
    ∙ ap (λ t. t ++ take (n - length before) (here ++ after)) passed
    ∙ ap (λ m. before ++ take m (here ++ after)) rest
    ∙ ap (λ t. before ++ t)
    (take-append position here after ∙ ap (λ m. take position here ++ take m after) none ∙ append-nil (take position here)) in (
      All-push IsPiece (take k ps) p (All-take IsPiece k ps a) piece,
      joined-push (take k ps) p ∙ ap (λ t. before ++ t) e ∙ sym (ap (take n) (joined-split ps k d cut.there) ∙ shown),
    )

-- The first points are in the slices up to and including that of the cut.
pub in_leading : (ps : List (Bor (List ℕ))) (count k position : ℕ) → IsCut ps count k position → IsInside ps k position
    → count ≤ length (joined (take (k + 1) ps))
in_leading ps count k position cut inside =
    let d : Bor (List ℕ) = record { ref_ptr = (0, 0); now = [] } in
    let sum = cut.sum in
    omega (
      arith,
      sum,
      inside d,
      joined-drop_more ps k d cut.there,
      ap length (joined-parts ps k),
      ap length (joined-parts ps (k + 1)),
      length-append (joined (take k ps)) (joined (drop k ps)),
      length-append (joined (take (k + 1) ps)) (joined (drop (k + 1) ps)),
    )

-- The first points, from leading slices.
pub front_copied : (ps : List (Bor (List ℕ))) (n count : ℕ) → count ≤ length (joined (take n ps))
    → slice_range (joined (take n ps)) 0 count ≡ take count (joined ps)
front_copied ps n count h =
    let leading = joined (take n ps) in
    let none : count - length leading ≡ 0 = omega arith in
    between_from_start leading count
    ∙ sym
    (ap (take count) (joined-parts ps n) ∙ take-append count leading (joined (drop n ps))
    ∙ ap (λ m. take count leading ++ take m (joined (drop n ps))) none ∙ append-nil (take count leading))

-- The slices from one on, as a range.
pub trailing_is : (ps : List (Bor (List ℕ))) (k : ℕ) → slice_range ps k (length ps) ≡ drop k ps
trailing_is ps k = between_to_end ps k (length ps) (omega arith)

-- The number of points from a cut on.
pub in_trailing : (ps : List (Bor (List ℕ))) (count k position : ℕ) → IsCut ps (length (joined ps) - count) k position
    → count ≤ length (joined ps) → position + count ≡ length (joined (drop k ps))
in_trailing ps count k position cut h =
    let sum = cut.sum in
    omega (
      arith,
      sum,
      ap length (joined-parts ps k),
      length-append (joined (take k ps)) (joined (drop k ps)),
    )

-- The last points, from trailing slices.
pub back_copied : (ps : List (Bor (List ℕ))) (count k position : ℕ) → IsCut ps (length (joined ps) - count) k position
    → count ≤ length (joined ps)
    → slice_range (joined (drop k ps)) position (position + count) ≡ drop (length (joined ps) - count) (joined ps)
back_copied ps count k position cut h =
    let before = joined (take k ps) in
    let trailing = joined (drop k ps) in
    let n = length (joined ps) - count in
    let sum = cut.sum in
    let passed : drop n before ≡ [] = drop_all n before (omega (arith, sum)) in
    let skip : n - length before ≡ position = omega (arith, sum) in
    between_to_end trailing position (position + count) (omega (arith, in_trailing ps count k position cut h))
    ∙ sym
    (ap (drop n) (joined-parts ps k) ∙ drop-append n before trailing
    ∙ ap (λ t. t ++ drop (n - length before) trailing) passed ∙ ap (λ m. drop m trailing) skip)
