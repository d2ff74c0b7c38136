-- A range of a list rotated by one: its first member moves to its end, or its last member to its start.
use Rattle.std.proofs.Common.{◌≡◌, ℕ, ◌<◌, ◌≤◌, ◌+◌, ◌-◌, suc, zero, List, [], ◌∷◌, ◌++◌, length, insert, remove}
use Rattle.std.proofs.Common.{slice_get, Some, sym, ◌∙◌, ap, take, drop, get_or, arith, append_assoc, length-drop}
use Rattle.std.proofs.Common.{length-take}
use Rattle.std.proofs.lemmas.List.{take-take, take-append-drop, take_at, drop_at, get_or-drop}
use Rattle.std.proofs.lemmas.List.Edits.{insert-append_right, remove-append_right}
use Rattle.std.proofs.lemmas.Option.{slice_get-get_or, get_or_from_slice_get}
use Rattle.base_numbered_lists.specs.Moved.{moved}
use Rattle.base_numbered_lists.proofs.Lists.{slice_get-within, moved-found}

drop-found : {X : Type 0} (xs : List X) (i : ℕ) (x : X) → slice_get xs i ≡ Some x → drop i xs ≡ x ∷ drop (suc i) xs
drop-found [] i x e = cc
drop-found (y ∷ ys) zero x e = cc
drop-found (y ∷ ys) (suc i) x e = drop-found ys i x e

last-found : {X : Type 0} (xs : List X) (n : ℕ) (x : X) → slice_get xs n ≡ Some x → drop n (take (suc n) xs) ≡ x ∷ []
last-found [] n x e = cc
last-found (y ∷ ys) zero x e = cc
last-found (y ∷ ys) (suc n) x e = last-found ys n x e

slice_get-drop : {X : Type 0} (xs : List X) (j i : ℕ) (x : X) → slice_get xs i ≡ Some x → j ≤ i
    → slice_get (drop j xs) (i - j) ≡ Some x
slice_get-drop xs j i x e h =
    let within = slice_get-within xs i x e in
    let inside : i - j < length (drop j xs) = omega (arith, length-drop j xs) in
    let place : j + (i - j) ≡ i = omega arith in
    slice_get-get_or (drop j xs) (i - j) x inside
    ∙ ap Some (get_or-drop j xs (i - j) x ∙ (ap (λ n. get_or xs n x) place ∙ get_or_from_slice_get xs i x x e))

-- `rotate_left(1)` of the range from i to j.
pub first_to_last : {X : Type 0} (xs : List X) (i j k : ℕ) (x : X) → slice_get xs i ≡ Some x → i ≤ j → k ≡ suc (j - i)
    → take i xs ++ ((drop 1 (take k (drop i xs)) ++ take 1 (take k (drop i xs))) ++ drop k (drop i xs)) ≡ moved xs i j
first_to_last xs i j k x e h size =
    let within = slice_get-within xs i x e in
    let q = drop (suc i) xs in
    let before : length (take i xs) ≡ i = omega (arith, length-take i xs) in
    ap (λ n. take i xs ++ ((drop 1 (take n (drop i xs)) ++ take 1 (take n (drop i xs))) ++ drop n (drop i xs))) size
    ∙ (ap
    (λ r. take i xs ++ ((drop 1 (take (suc (j - i)) r) ++ take 1 (take (suc (j - i)) r)) ++ drop (suc (j - i)) r))
    (drop-found xs i x e)
    ∙ (ap (λ r. take i xs ++ r) (append_assoc (take (j - i) q) (x ∷ []) (drop (j - i) q))
    ∙ (sym (insert-append_right (take i xs) q i j x before h)
    ∙ sym (moved-found xs i j x e))))

-- `rotate_right(1)` of the range from j to i.
pub last_to_first : {X : Type 0} (xs : List X) (i j k m : ℕ) (x : X) → slice_get xs i ≡ Some x → j ≤ i
    → k ≡ suc (i - j) → m ≡ i - j
    → take j xs ++ ((drop m (take k (drop j xs)) ++ take m (take k (drop j xs))) ++ drop k (drop j xs)) ≡ moved xs i j
last_to_first xs i j k m x e h size most =
    let within = slice_get-within xs i x e in
    let r = drop j xs in
    let n = i - j in
    let before : length (take j xs) ≡ j = omega (arith, length-take j xs) in
    ap (λ w. take j xs ++ ((drop m (take w r) ++ take m (take w r)) ++ drop w r)) size
    ∙ (ap (λ w. take j xs ++ ((drop w (take (suc n) r) ++ take w (take (suc n) r)) ++ drop (suc n) r)) most
    ∙ (ap (λ zs. take j xs ++ ((zs ++ take n (take (suc n) r)) ++ drop (suc n) r))
    (last-found r n x (slice_get-drop xs j i x e h))
    ∙ (ap (λ zs. take j xs ++ (x ∷ (zs ++ drop (suc n) r))) (take-take n (suc n) r (omega arith))
    ∙ (sym (ap (λ zs. zs ++ x ∷ drop j (take j xs ++ remove r n)) (take_at (take j xs) (remove r n) j before)
    ∙ ap (λ zs. take j xs ++ x ∷ zs) (drop_at (take j xs) (remove r n) j before))
    ∙ (sym (ap (λ zs. insert zs j x)
    (ap (λ zs. remove zs i) (sym (take-append-drop j xs)) ∙ remove-append_right (take j xs) r j i before h))
    ∙ sym (moved-found xs i j x e))))))
