-- Tests of bytes and of lists of bytes.
use Rattle.std.proofs.Common.{◌≡◌, ◌≤◌, ◌<◌, ℕ, suc, Bool, true, false, cond, ◌+◌, eqb, eqb-true, not, List, [], ◌∷◌}
use Rattle.std.proofs.Common.{◌++◌, length, get_or, take, drop, drop-cons, refl, ap, ◌∙◌, arith}
use Rattle.std.specs.List.{list_all, position_or_len, prefix_len}
use Rattle.std.proofs.lemmas.Bool.{ne_eqb, and_parts, and_from}
use Rattle.script_tokens.specs.Lines.{is_feed}
use Rattle.script_tokens.specs.Tokens.{is_blank, is_quote, ends_well}
use Rattle.script_tokens.specs.Parsers.{is_dots, dots_at}
use Rattle.script_tokens.specs.TextForm.{not_blank}

pub not_true : (b : Bool) → not b ≡ true → b ≡ false
not_true true e = cc
not_true false e = refl

pub list_all_weaker : (p q : ℕ → Bool) → ((b : ℕ) → p b ≡ true → q b ≡ true) → (xs : List ℕ) → list_all p xs ≡ true
    → list_all q xs ≡ true
list_all_weaker p q f [] e = refl
list_all_weaker p q f (x ∷ xs) e =
    let h = and_parts (p x) (list_all p xs) e in
    and_from (q x) (list_all q xs) (f x h.0) (list_all_weaker p q f xs h.1)

-- bytes that a test distinguishes differ
pub differs : (p : ℕ → Bool) (k b : ℕ) → p k ≡ false → p b ≡ true → eqb b k ≡ false
differs p k b x y = ne_eqb b k (λ h. let e = ap p h in cc)

abbrev pub not_feed : ℕ → Bool
not_feed b = not (is_feed b)

abbrev pub not_quote : ℕ → Bool
not_quote b = not (is_quote b)

pub no_blank_of : (p : ℕ → Bool) → p 32 ≡ false → p 9 ≡ false → p 13 ≡ false → (b : ℕ) → p b ≡ true → is_blank b ≡ false
no_blank_of p x y z b h =
    let e = differs p 32 b x h in let f = differs p 9 b y h in let g = differs p 13 b z h in rw (e, f, g) refl

pub not_blank_of : (p : ℕ → Bool) → p 32 ≡ false → p 9 ≡ false → p 13 ≡ false → (b : ℕ) → p b ≡ true
    → not_blank b ≡ true
not_blank_of p x y z b h = ap not (no_blank_of p x y z b h)

pub not_feed_of : (p : ℕ → Bool) → p 10 ≡ false → (b : ℕ) → p b ≡ true → not_feed b ≡ true
not_feed_of p x b h = let e = differs p 10 b x h in ap not e

-- ---- the first byte that passes a test

pub first_yes : {X : Type 0} (p : X → Bool) (x : X) (xs : List X) → p x ≡ true → position_or_len p (x ∷ xs) ≡ 0
first_yes p x xs e = rw e refl

pub first_no : {X : Type 0} (p : X → Bool) (x : X) (xs : List X) → p x ≡ false
    → position_or_len p (x ∷ xs) ≡ suc (position_or_len p xs)
first_no p x xs e = rw e (omega arith)

pub first_after : (p : ℕ → Bool) (w : List ℕ) (k : ℕ) (rest : List ℕ) → list_all (λ b. not (p b)) w ≡ true
    → p k ≡ true → position_or_len p (w ++ k ∷ rest) ≡ length w
first_after p [] k rest h e = first_yes p k rest e
first_after p (b ∷ w) k rest h e =
    let g = and_parts (not (p b)) (list_all (λ c. not (p c)) w) h in
    first_no p b (w ++ k ∷ rest) (not_true (p b) g.0) ∙ ap suc (first_after p w k rest g.1 e)

first_nowhere : (p : ℕ → Bool) (w : List ℕ) → list_all (λ b. not (p b)) w ≡ true
    → position_or_len p (w ++ []) ≡ length w
first_nowhere p [] h = refl
first_nowhere p (b ∷ w) h =
    let g = and_parts (not (p b)) (list_all (λ c. not (p c)) w) h in
    first_no p b (w ++ []) (not_true (p b) g.0) ∙ ap suc (first_nowhere p w g.1)

pub blank_after : (w rest : List ℕ) → list_all not_blank w ≡ true → ends_well rest ≡ true
    → position_or_len is_blank (w ++ rest) ≡ length w
blank_after w [] h e = first_nowhere is_blank w h
blank_after w (k ∷ rest) h e = first_after is_blank w k rest h e

-- the bytes before the first that fails a test all pass it
pub front_passes : (p : ℕ → Bool) (xs : List ℕ) → list_all p (take (prefix_len p xs) xs) ≡ true
front_passes p [] = refl
front_passes p (x ∷ xs) = from (front_passes p xs) (p x) refl
  where
    from : list_all p (take (prefix_len p xs) xs) ≡ true → (b : Bool) → p x ≡ b
        → list_all p (take (cond b (1 + prefix_len p xs) 0) (x ∷ xs)) ≡ true
    from h true e = let n : 1 + prefix_len p xs ≡ suc (prefix_len p xs) = omega arith in rw (n, e, h) refl
    from h false e = refl

-- ---- the first `..`

-- `..`, and the bytes after it
are_dots : (w : List ℕ) → is_dots w ≡ true → w ≡ 46 ∷ 46 ∷ drop 2 w
are_dots [] e = cc
are_dots (b ∷ []) e = cc
are_dots (b ∷ c ∷ w) e =
    let h = and_parts (eqb b 46) (eqb c 46) e in
    rw (eqb-true b 46 h.0, eqb-true c 46 h.1) refl

-- a position without `..` is skipped
passed : (b : ℕ) (w : List ℕ) → is_dots (b ∷ w) ≡ false → dots_at (b ∷ w) ≡ suc (dots_at w)
passed b w e = rw e refl

pub dots_on : (at : ℕ) (w : List ℕ) → at < length w → is_dots (drop at w) ≡ false
    → at + 1 + dots_at (drop (at + 1) w) ≡ at + dots_at (drop at w)
dots_on at w l e =
    let d = drop-cons w at 0 l in
    let n : at + 1 ≡ suc at = omega arith in
    let p : dots_at (drop at w) ≡ suc (dots_at (drop (at + 1) w)) =
    rw n (ap dots_at d ∙ passed (get_or w at 0) (drop (suc at) w) (rw d at e)) in
    omega (arith, p)

pub no_dots : (b : ℕ) (w : List ℕ) → eqb b 46 ≡ false → dots_at (b ∷ w) ≡ suc (dots_at w)
no_dots b [] e = refl
no_dots b (c ∷ w) e = rw e refl

-- the bytes before it, `..`, and the bytes after it
pub split_at_dots : (w : List ℕ) → dots_at w + 2 ≤ length w → w ≡ take (dots_at w) w ++ 46 ∷ 46 ∷ drop (dots_at w + 2) w
split_at_dots [] h = absurd (omega arith)
split_at_dots (b ∷ w) h = from (split_at_dots w) (is_dots (b ∷ w)) refl h
  where
    from : (dots_at w + 2 ≤ length w → w ≡ take (dots_at w) w ++ 46 ∷ 46 ∷ drop (dots_at w + 2) w) → (t : Bool)
        → is_dots (b ∷ w) ≡ t → cond t 0 (suc (dots_at w)) + 2 ≤ suc (length w)
        → b ∷ w
        ≡ take (cond t 0 (suc (dots_at w))) (b ∷ w) ++ 46 ∷ 46 ∷ drop (cond t 0 (suc (dots_at w)) + 2) (b ∷ w)
    from more true e l = are_dots (b ∷ w) e
    from more false e l =
        let n : suc (dots_at w) + 2 ≡ suc (dots_at w + 2) = omega arith in
        rw n (ap (λ (v : List ℕ). b ∷ v) (more (omega (arith, l))))
