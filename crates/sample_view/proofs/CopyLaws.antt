-- A range of the points, copied slice by slice.
use Rattle.std.proofs.Common.{◌≡◌, ℕ, zero, suc, ◌+◌, ◌/◌, ◌<◌, ◌≤◌, ◌-◌, min, List, [], ◌∷◌, ◌++◌, length, get_or}
use Rattle.std.proofs.Common.{take, drop, refl, ap, sym, ◌∙◌, arith, length-append, length-take, length-drop}
use Rattle.std.specs.Prelude.{slice_range}
use Rattle.std.specs.Borrow.{Bor}
use Rattle.std.proofs.lemmas.List.{take_min, drop_min, drop-drop, take-append-drop, append_assoc}
use Rattle.sample_view.specs.Words.{words}
use Rattle.sample_view.specs.Pieces.{joined}
use Rattle.sample_view.proofs.WordLaws.{length-words}
use Rattle.sample_view.proofs.PieceLaws.{joined-more}

-- A list is its first, middle and last parts.
pub three_parts : (xs : List ℕ) (i j : ℕ) → i ≤ j → xs ≡ take i xs ++ slice_range xs i j ++ drop j xs
three_parts xs i j h =
    let rest : drop j xs ≡ drop (j - i) (drop i xs) =
    ap (λ k. drop k xs) (omega arith) ∙ sym (drop-drop (j - i) i xs) in
    sym
    (append_assoc (take i xs) (slice_range xs i j) (drop j xs)
    ∙ ap (λ t. take i xs ++ t) (ap (λ t. slice_range xs i j ++ t) rest ∙ take-append-drop (j - i) (drop i xs))
    ∙ take-append-drop i xs)

-- Dropping from a concatenation of two lists.
pub drop-append : (n : ℕ) (xs ys : List ℕ) → drop n (xs ++ ys) ≡ drop n xs ++ drop (n - length xs) ys
drop-append zero xs ys = let z : 0 - length xs ≡ 0 = omega arith in rw z refl
drop-append (suc n) [] ys = let z : suc n - 0 ≡ suc n = omega arith in rw z refl
drop-append (suc n) (x ∷ xs) ys =
    let z : suc n - suc (length xs) ≡ n - length xs = omega arith in rw z (drop-append n xs ys)

-- A prefix of a concatenation of two lists.
pub take-append : (n : ℕ) (xs ys : List ℕ) → take n (xs ++ ys) ≡ take n xs ++ take (n - length xs) ys
take-append zero xs ys = let z : 0 - length xs ≡ 0 = omega arith in rw z refl
take-append (suc n) [] ys = let z : suc n - 0 ≡ suc n = omega arith in rw z refl
take-append (suc n) (x ∷ xs) ys =
    let z : suc n - suc (length xs) ≡ n - length xs = omega arith in rw z (ap (λ t. x ∷ t) (take-append n xs ys))

-- A range of a list with clamped bounds.
window : (ys : List ℕ) (skip remaining start room : ℕ) → start ≡ min skip (length ys) → room ≡ min remaining (length ys - start)
    → take room (drop start ys) ≡ take remaining (drop skip ys)
window ys skip remaining start room s r =
    let e : room ≡ min remaining (length (drop start ys)) = omega (arith, length-drop start ys) in
    ap (λ n. take n (drop start ys)) e ∙ take_min remaining (drop start ys)
    ∙ ap (λ l. take remaining l) (ap (λ n. drop n ys) s ∙ drop_min skip ys)

-- The n numbers from index `from`, as far as the list is read: those made, how many are still to skip, and how many
-- remain to make.
pub record CopiedSoFar (seen made : List ℕ) (from n skip remaining : ℕ) : Type 0 where
  pub made_is : made ≡ take n (drop from seen)
  pub skip_is : skip ≡ from - length seen
  pub left_is : remaining ≡ n - length made

-- One more slice.
pub CopiedSoFar-more : (seen made ys piece made' : List ℕ) (from n skip remaining start room : ℕ)
    → CopiedSoFar seen made from n skip remaining → start ≡ min skip (length ys) → room ≡ min remaining (length ys - start)
    → piece ≡ take room (drop start ys) → made' ≡ made ++ piece
    → CopiedSoFar (seen ++ ys) made' from n (skip - start) (remaining - room)
CopiedSoFar-more seen made ys piece made' from n skip remaining start room so s r p e =
    let skip_is = so.skip_is in
    let left_is = so.left_is in
    let made_length : n - length (drop from seen) ≡ remaining =
    omega (arith, ap length so.made_is, length-take n (drop from seen)) in
    let piece_is : piece ≡ take (n - length (drop from seen)) (drop (from - length seen) ys) =
    rw (made_length, ← skip_is) (p ∙ window ys skip remaining start room s r) in
    let whole : made' ≡ take n (drop from (seen ++ ys)) =
    e ∙ ap (λ t. t ++ piece) so.made_is ∙ ap (λ t. take n (drop from seen) ++ t) piece_is
    ∙ sym
    (ap (λ l. take n l) (drop-append from seen ys) ∙ take-append n (drop from seen) (drop (from - length seen) ys))
    in
    let piece_length : length piece ≡ room =
    omega (arith, ap length p, length-take room (drop start ys), length-drop start ys) in
    record {
      made_is = whole;
      skip_is = omega (arith, length-append seen ys);
      left_is = omega (arith, ap length e, length-append made piece);
    }

-- One iteration of `copy_range`.
pub copied_next : (pieces kept kept' : List (Bor (List ℕ))) (d : Bor (List ℕ)) (part : List ℕ)
    (i from n skip remaining start room : ℕ)
    → i < length pieces
    → CopiedSoFar (joined (take i pieces)) (joined kept) from n skip remaining
    → start ≡ min skip (length (get_or pieces i d).now / 2)
    → room ≡ min remaining (length (get_or pieces i d).now / 2 - start)
    → words part ≡ take room (drop start (words (get_or pieces i d).now))
    → joined kept' ≡ joined kept ++ words part
    → CopiedSoFar (joined (take (i + 1) pieces)) (joined kept') from n (skip - start) (remaining - room)
copied_next pieces kept kept' d part i from n skip remaining start room h so s r p e =
    let count = length-words (get_or pieces i d).now in
    let s' : start ≡ min skip (length (words (get_or pieces i d).now)) = rw count s in
    let r' : room ≡ min remaining (length (words (get_or pieces i d).now) - start) = rw count r in
    rw (joined-more pieces i d h) (CopiedSoFar-more _ _ _ _ _ from n skip remaining start room so s' r' p e)
