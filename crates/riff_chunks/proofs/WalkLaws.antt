-- How a walk continues, and that it is the only list of items of its window.
use Rattle.std.proofs.Common.{◌≡◌, ◌≤◌, ◌<◌, ◌+◌, ◌%◌, ◌↔◌, ◌⊎◌, ℕ, zero, suc, true, false, ltb, List, [], ◌∷◌}
use Rattle.std.proofs.Common.{length, take, drop, Ok, Err, refl, sym, ap, subst, ◌∙◌, arith, inl, inr}
use Rattle.std.proofs.lemmas.Bool.{cases_lt, cases_Bool, le-ltb, lt-ltb, le-leb, leb-true, both_ways}
use Rattle.std.proofs.lemmas.Bool.{false_from_ne_true, cond-true, cond-false}
use Rattle.std.proofs.lemmas.List.{length-drop}
use Rattle.std.proofs.lemmas.Slice.Eq.{bytes_eq-Decides}
use Rattle.std.specs.Str.{bytes_eq}
use Rattle.riff_chunks.specs.Walk.{Chunk, truncated, Item, LIST, size_at, chunk_at, after, BodyFits, Walks, end_of}
use Rattle.riff_chunks.specs.Walk.{body_fits, walk_for, walk}

-- ---- the test of a body decides whether it fits

end_of-list : (w : List ℕ) → take 4 w ≡ LIST → end_of w ≡ length w + 1
end_of-list w e =
    cond-true (bytes_eq (take 4 w) LIST) (length w + 1) (length w) ((bytes_eq-Decides (take 4 w) LIST).1 e)

-- The first chunk is a list, or another chunk.
cases_list : (w : List ℕ) → ((take 4 w ≡ LIST) × (end_of w ≡ length w + 1)) ⊎ (end_of w ≡ length w)
cases_list w = elim (cases_Bool (bytes_eq (take 4 w) LIST)) [
  | inl same ↦ (let e = (bytes_eq-Decides (take 4 w) LIST).0 same in inl (e, end_of-list w e))
  | inr other ↦ inr (cond-false (bytes_eq (take 4 w) LIST) (length w + 1) (length w) other)
]

pub body_fits-true : (w : List ℕ) → BodyFits w → body_fits w ≡ true
body_fits-true w (inl le) = elim (cases_list w) [
  | inl list ↦ le-leb _ _ (let e = list.1 in omega (arith, e))
  | inr e ↦ le-leb _ _ (omega (arith, e))
]
body_fits-true w (inr list) = le-leb _ _ (let size = list.1 in omega (arith, size, end_of-list w list.0))

BodyFits-true : (w : List ℕ) → body_fits w ≡ true → BodyFits w
BodyFits-true w f =
    let le = leb-true (8 + size_at w) (end_of w) f in
    elim (cases_list w) [
      | inl list ↦ (let e = list.1 in elim (cases_lt (length w) (8 + size_at w)) [
        | inl past ↦ inr (list.0, omega (arith, e, le))
        | inr within ↦ inl within
      ])
      | inr e ↦ inl (omega (arith, e, le))
    ]

pub body_fits-false : (w : List ℕ) → ¬ (BodyFits w) → body_fits w ≡ false
body_fits-false w passes = false_from_ne_true (body_fits w) (λ f. passes (BodyFits-true w f))

BodyFits-false : (w : List ℕ) → body_fits w ≡ false → ¬ (BodyFits w)
BodyFits-false w passes f = both_ways (body_fits w) passes (body_fits-true w f)

-- ---- one chunk

after-shorter : (w : List ℕ) → 8 ≤ length w → length (after w) + 8 ≤ length w
after-shorter w long = omega (arith, length-drop (8 + size_at w + size_at w % 2) w)

short_once : (n : ℕ) (w : List ℕ) → length w < 8 → walk_for n w ≡ []
unfolding walk_for
short_once zero w short = refl
short_once (suc n) w short = let e : ltb (length w) 8 ≡ true = lt-ltb _ _ short in rw e refl

chunk_once : (n : ℕ) (w : List ℕ) → 8 ≤ length w → body_fits w ≡ true
    → walk_for (suc n) w ≡ Ok (chunk_at w) ∷ walk_for n (after w)
unfolding walk_for
chunk_once n w long f = let e : ltb (length w) 8 ≡ false = le-ltb _ _ long in rw (e, f) refl

cut_once : (n : ℕ) (w : List ℕ) → 8 ≤ length w → body_fits w ≡ false → walk_for (suc n) w ≡ Err truncated ∷ []
unfolding walk_for
cut_once n w long f = let e : ltb (length w) 8 ≡ false = le-ltb _ _ long in rw (e, f) refl

-- As many steps as there are bytes suffice.
walk_for-enough : (n m : ℕ) (w : List ℕ) → length w ≤ n → length w ≤ m → walk_for n w ≡ walk_for m w
walk_for-enough zero m w p q = short_once zero w (omega arith) ∙ sym (short_once m w (omega arith))
walk_for-enough (suc n) zero w p q = short_once (suc n) w (omega arith) ∙ sym (short_once zero w (omega arith))
walk_for-enough (suc n) (suc m) w p q =
    elim (cases_lt (length w) 8) [
      | inl short ↦ short_once (suc n) w short ∙ sym (short_once (suc m) w short)
      | inr long ↦ elim (cases_Bool (body_fits w)) [
        | inl f ↦ (let less = after-shorter w long in
            chunk_once n w long f
            ∙ ap (λ (items : List Item). Ok (chunk_at w) ∷ items)
            (walk_for-enough n m (after w) (omega arith) (omega arith))
            ∙ sym (chunk_once m w long f))
        | inr f ↦ cut_once n w long f ∙ sym (cut_once m w long f)
      ]
    ]

-- ---- a walk, by its first bytes

pub walk-short : (w : List ℕ) → length w < 8 → walk w ≡ []
unfolding walk
walk-short w short = short_once (length w) w short

pub walk-chunk_at : (w : List ℕ) → 8 ≤ length w → body_fits w ≡ true → walk w ≡ Ok (chunk_at w) ∷ walk (after w)
unfolding walk
walk-chunk_at w long f =
    walk_for-enough (length w) (suc (length w)) w (omega arith) (omega arith)
    ∙ chunk_once (length w) w long f
    ∙ ap (λ (items : List Item). Ok (chunk_at w) ∷ items)
    (walk_for-enough (length w) (length (after w)) (after w) (let less = after-shorter w long in omega arith)
    (omega arith))

pub walk-cut : (w : List ℕ) → 8 ≤ length w → body_fits w ≡ false → walk w ≡ Err truncated ∷ []
unfolding walk
walk-cut w long f =
    walk_for-enough (length w) (suc (length w)) w (omega arith) (omega arith) ∙ cut_once (length w) w long f

-- The first chunk, as the code slices it.
pub walk-next : (w : List ℕ) (size : ℕ) (id body rest : List ℕ) → 8 ≤ length w → body_fits w ≡ true
    → size ≡ size_at w → id ≡ take 4 w → body ≡ take size (drop 8 w) → rest ≡ drop (8 + size + size % 2) w
    → walk w ≡ Ok (record { id = id; body = body }) ∷ walk rest
walk-next w size id body rest long f e i b r = rw (r, b, i, e) (walk-chunk_at w long f)

-- ---- the walk and the relation

pub Walks-one : (w : List ℕ) (items : List Item) → Walks w items → items ≡ walk w
Walks-one w [] short = sym (walk-short w short)
Walks-one w (Ok c ∷ items) (long, f, e, others) =
    ap (λ (is : List Item). Ok c ∷ is) (Walks-one (after w) items others)
    ∙ ap (λ (d : Chunk). Ok d ∷ walk (after w)) e
    ∙ sym (walk-chunk_at w long (body_fits-true w f))
Walks-one w (Err t ∷ items) (long, passes, e) =
    ap (λ (is : List Item). Err t ∷ is) e ∙ sym (walk-cut w long (body_fits-false w passes))

-- The items of a window, by its first bytes.
Walks-walk_for : (n : ℕ) (w : List ℕ) → length w ≤ n → Walks w (walk_for n w)
Walks-walk_for zero w le =
    let short : length w < 8 = omega arith in subst (Walks w) (sym (short_once zero w short)) short
Walks-walk_for (suc n) w le =
    elim (cases_lt (length w) 8) [
      | inl short ↦ subst (Walks w) (sym (short_once (suc n) w short)) short
      | inr long ↦ elim (cases_Bool (body_fits w)) [
        | inl f ↦ (let less = after-shorter w long in
            subst (Walks w) (sym (chunk_once n w long f))
            (long, BodyFits-true w f, refl, Walks-walk_for n (after w) (omega arith)))
        | inr passes ↦ subst (Walks w) (sym (cut_once n w long passes)) (long, BodyFits-false w passes, refl)
      ]
    ]

pub Walks-walk : (w : List ℕ) → Walks w (walk w)
unfolding walk
Walks-walk w = Walks-walk_for (length w) w (omega arith)

pub walk_is_one : (w : List ℕ) (items : List Item) → Walks w items ↔ (items ≡ walk w)
walk_is_one w items = (Walks-one w items, λ e. subst (Walks w) (sym e) (Walks-walk w))

-- A list without its first item is shorter.
pub fewer : {X : Type 0} (xs : List X) (x : X) (ys : List X) → xs ≡ x ∷ ys → length ys < length xs
fewer xs x ys e = let n = ap length e in omega (arith, n)
