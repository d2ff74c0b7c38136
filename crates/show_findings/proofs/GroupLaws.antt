-- A group of an ascending list.
use Rattle.std.proofs.Common.{◌≡◌, ◌≤◌, ◌<◌, ℕ, suc, ◌+◌, ◌&&◌, ◌||◌, List, [], ◌∷◌, length, take, drop, get_or}
use Rattle.std.proofs.Common.{refl, sym, ap, ◌∙◌, arith, Bool, true, false, take-append-drop, get_or-take, get_or-drop}
use Rattle.std.proofs.Common.{length-take, length-drop, nat_lt, nat_le}
use Rattle.std.specs.Prelude.{◌==◌}
use Rattle.std.specs.List.{list_any, All}
use Rattle.std.specs.List.Sorted.{IsPartitionPoint}
use Rattle.std.proofs.lemmas.Bool.{ne_eqb, eq-eqb}
use Rattle.std.proofs.lemmas.Bool.Decides.{nat_tests}
use Rattle.std.proofs.lemmas.List.Folds.{list_any-append, list_any_none}

-- tests that agree on all members
any_same : {X : Type 0} (p q : X → Bool) (xs : List X) → All (λ x. p x ≡ q x) xs → list_any p xs ≡ list_any q xs
any_same p q [] h = refl
any_same p q (x ∷ xs) h =
    ap (λ t. t || list_any p xs) (h 0 x (omega arith))
    ∙ ap (λ t. q x || t) (any_same p q xs (λ k d lt. h (suc k) d (omega (arith, lt))))

nothing : (s t : Bool) → s ≡ false → t ≡ false → (u : Bool) → (s || (u || t)) ≡ u
nothing s t e f u = rw (e, f) (elim u as (λ v. (v || false) ≡ v) [ true ↦ refl | false ↦ refl ])

module _ {X : Type 0} (n : X → ℕ) (p : X → Bool) (xs : List X) (x start end : ℕ) where
  abbrev rest : List X
  rest = drop start xs

  abbrev is_there : X → Bool
  is_there y = (n y == x) && p y

  missed : (y : X) → (n y == x) ≡ false → is_there y ≡ false
  missed y e = rw e refl

  hit : (y : X) → (n y == x) ≡ true → is_there y ≡ p y
  hit y e = rw e refl

  pub group_any : start ≤ length xs → end ≤ length (drop start xs)
      → IsPartitionPoint (λ y. nat_lt (n y) x ≡ true) (λ y. nat_lt (n y) x ≡ false) xs start
      → IsPartitionPoint (λ y. nat_le (n y) x ≡ true) (λ y. nat_le (n y) x ≡ false) (drop start xs) end
      → list_any p (take end (drop start xs)) ≡ list_any (λ y. (n y == x) && p y) xs
  group_any inside within first second =
      sym
      (ap (list_any is_there) (sym (take-append-drop start xs)) ∙ list_any-append is_there (take start xs) rest
      ∙ ap (λ t. list_any is_there (take start xs) || t)
      (ap (list_any is_there) (sym (take-append-drop end rest))
      ∙ list_any-append is_there (take end rest) (drop end rest))
      ∙ nothing (list_any is_there (take start xs)) (list_any is_there (drop end rest))
      (list_any_none is_there (take start xs) below) (list_any_none is_there (drop end rest) above)
      (list_any is_there (take end rest))
      ∙ any_same is_there p (take end rest) there)
    where
      below : All (λ y. is_there y ≡ false) (take start xs)
      below k d lt =
          let few : k < start = (let e = length-take start xs in omega (arith, e, lt, inside)) in
          let less = first.0 k d (omega arith) few in
          rw (get_or-take start xs k d few)
          (missed (get_or xs k d) (ne_eqb _ _ (λ e. let t = less in grind (arith, nat_tests))))

      above : All (λ y. is_there y ≡ false) (drop end rest)
      above k d lt =
          let few : end + k < length rest = (let e = length-drop end rest in omega (arith, e, lt, within)) in
          let more = second.1 (end + k) d (omega arith) few in
          rw (get_or-drop end rest k d)
          (missed (get_or rest (end + k) d) (ne_eqb _ _ (λ e. let t = more in grind (arith, nat_tests))))

      there : All (λ y. is_there y ≡ p y) (take end rest)
      there k d lt =
          let few : k < end = (let e = length-take end rest in omega (arith, e, lt, within)) in
          let most = second.0 k d (omega arith) few in
          let all : start + k < length xs = (let e = length-drop start xs in omega (arith, e, few, within, inside)) in
          let least = first.1 (start + k) d (omega arith) all in
          let same : get_or rest k d ≡ get_or xs (start + k) d = get_or-drop start xs k d in
          rw (get_or-take end rest k d few)
          (hit (get_or rest k d)
          (eq-eqb _ _ (let m = ap n same in let l = least in let u = most in grind (arith, nat_tests))))
