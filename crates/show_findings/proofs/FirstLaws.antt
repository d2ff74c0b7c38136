-- The first index of each key of a list.
use Rattle.std.proofs.Common.{◌≡◌, ◌<◌, ℕ, suc, ◌+◌, List, [], ◌∷◌, ◌++◌, length, take, refl, sym, ap}
use Rattle.std.proofs.Common.{◌∙◌, arith, Bool, true, false, cond, Option, Some, None, slice_index, take-suc, length-take}
use Rattle.std.specs.Prelude.{◌==◌}
use Rattle.std.specs.List.{position_from}
use Rattle.std.specs.Option.{option_or}

-- the first of a list with one more member
first_push : (t : ℕ → Bool) (i : ℕ) (xs : List ℕ) (y : ℕ)
    → position_from t i (xs ++ y ∷ [])
    ≡ option_or (position_from t i xs) (cond (t y) (Some (i + length xs)) None)
first_push t i [] y =
    let e : i + 0 ≡ i = omega arith in rw e refl
first_push t i (x ∷ xs) y =
    elim (t x) as
    (λ c.
    cond c (Some i) (position_from t (i + 1) (xs ++ y ∷ []))
    ≡ option_or (cond c (Some i) (position_from t (i + 1) xs)) (cond (t y) (Some (i + suc (length xs))) None)) [
      | true ↦ refl
      | false ↦
          first_push t (i + 1) xs y
          ∙ (let e : i + 1 + length xs ≡ i + suc (length xs) = omega arith in
          ap (λ n. option_or (position_from t (i + 1) xs) (cond (t y) (Some n) None)) e)
    ]

-- the map has the first index of each key among the first i
abbrev pub Firsts : List ℕ → ℕ → (ℕ → Option ℕ) → Type 0
Firsts keys i look = (q : ℕ) → look q ≡ position_from (λ k. k == q) 0 (take i keys)

pub firsts_more : (keys : List ℕ) (i : ℕ) (old new : ℕ → Option ℕ) → i < length keys → Firsts keys i old
    → ((q : ℕ) → new q ≡ option_or (old q) (cond (slice_index keys i == q) (Some i) None))
    → Firsts keys (i + 1) new
firsts_more keys i old new lt h e q =
    let n : length (take i keys) ≡ i = omega (arith, length-take i keys, lt) in
    e q ∙ ap (λ o. option_or o (cond (slice_index keys i == q) (Some i) None)) (h q)
    ∙ ap (λ m. option_or (position_from (λ k. k == q) 0 (take i keys)) (cond (slice_index keys i == q) (Some m) None))
    (sym n ∙ (let z : length (take i keys) ≡ 0 + length (take i keys) = omega arith in z))
    ∙ sym (first_push (λ k. k == q) 0 (take i keys) (slice_index keys i))
    ∙ ap (position_from (λ k. k == q) 0)
    (sym (take-suc keys i 0 lt) ∙ (let s : suc i ≡ i + 1 = omega arith in ap (λ m. take m keys) s))
