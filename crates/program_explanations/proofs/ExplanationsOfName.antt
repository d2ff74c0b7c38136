-- The explanations of a name: found in the order of the list, and all of that name.
use Rattle.std.proofs.Common.{◌≡◌, ◌↔◌, ◌<◌, ◌+◌, ℕ, zero, suc, Bool, true, IsTrue, ◌&&◌, nat_lt, List, [], ◌∷◌}
use Rattle.std.proofs.Common.{map, filter, length, get_or, Any, ap, sym, subst, refl, ◌∙◌, arith}
use Rattle.std.specs.Char.{to_ascii_lowercase}
use Rattle.std.specs.List.{AllPairs, list_any}
use Rattle.std.specs.List.Sorted.{IsStrictlyIncreasing}
use Rattle.std.specs.Str.{str_eq_ignore_ascii_case}
use Rattle.std.proofs.lemmas.Bool.Decides.{same_from_decides}
use Rattle.std.proofs.lemmas.List.{get_or-map, length-map}
use Rattle.std.proofs.lemmas.List.Elements.{filter_passes}
use Rattle.std.proofs.lemmas.List.Folds.{Any-from_list_any}
use Rattle.std.proofs.lemmas.List.Kept.{AllPairs-filter, AllPairs-from_increasing}
use Rattle.std.proofs.lemmas.Map.Views.{any-filter_same}
use Rattle.std.proofs.lemmas.Slice.Eq.{bytes_eq-Decides}
use borrow.Author.Tests.{ltb-true}
use Rattle.program_explanations.specs.declared.explanations.Explanation.{Explanation}
use Rattle.program_explanations.specs.declared.explanations.FaultCode.{FaultCode}
use Rattle.program_explanations.specs.declared.explanations.FaultCode.TheVariants.{NotNeutral}
use Rattle.program_explanations.specs.declared.explanations.TheConstants.{ALL}
use Rattle.program_explanations.specs.Explanations.{number_of, name_of, is_named, Explains, ExplainInTurn, AreOfName}
use Rattle.program_explanations.proofs.AllExplained.{is_same, same_parts, and_true, all_listed}

-- the test of std is the test of the definition
pub named_test : (result : Bool) (x y : List ℕ)
    → IsTrue result ↔ (map to_ascii_lowercase x ≡ map to_ascii_lowercase y)
    → result ≡ str_eq_ignore_ascii_case x y
named_test result x y h =
    same_from_decides result (str_eq_ignore_ascii_case x y) (h.0, h.1)
    (bytes_eq-Decides (map to_ascii_lowercase x) (map to_ascii_lowercase y))

-- ---- the order of the numbers

-- whether each number is below the next
abbrev rises : List ℕ → Bool
rises [] = true
rises (x ∷ []) = true
rises (x ∷ y ∷ rest) = nat_lt x y && rises (y ∷ rest)

-- what the test means
rising_from_test : (xs : List ℕ) → rises xs ≡ true → IsStrictlyIncreasing xs
rising_from_test [] e k within = absurd (omega arith)
rising_from_test (x ∷ []) e k within = absurd (omega arith)
rising_from_test (x ∷ y ∷ rest) e zero within = ltb-true x y (and_true (nat_lt x y) (rises (y ∷ rest)) e).0
rising_from_test (x ∷ y ∷ rest) e (suc k) within =
    let next : suc k + 1 ≡ suc (k + 1) = omega arith in
    let later = rising_from_test (y ∷ rest) (and_true (nat_lt x y) (rises (y ∷ rest)) e).1 k (omega arith) in
    subst (λ n. get_or (y ∷ rest) k 0 < get_or (x ∷ y ∷ rest) n 0) (sym next) later

-- of two codes of the list the earlier has the smaller number
all_in_order : AllPairs (λ a b. number_of a < number_of b) ALL
all_in_order =
    let increasing = AllPairs-from_increasing (map number_of ALL) (rising_from_test (map number_of ALL) refl) in
    λ i j d lt within.
    rw (← get_or-map number_of ALL i d 0 (omega arith), ← get_or-map number_of ALL j d 0 within)
    (increasing i j 0 lt (rw length-map within))

-- the numbers of any of them, in order, rise
numbers_rise : (p : FaultCode → Bool) → IsStrictlyIncreasing (map number_of (filter p ALL))
numbers_rise p k within =
    let codes = filter p ALL in
    let long : length (map number_of codes) ≡ length codes = length-map codes number_of in
    let in_order = AllPairs-filter (λ a b. number_of a < number_of b) p ALL all_in_order in
    rw
    (get_or-map number_of codes k NotNeutral 0 (omega arith), get_or-map number_of codes (k + 1) NotNeutral 0 (omega arith))
    (in_order k (k + 1) NotNeutral (omega arith) (omega arith))

-- ---- the explanations of the codes

module _ {codes : List FaultCode} {found : List Explanation} (h : ExplainInTurn codes found) where
  -- one for each
  as_many : length found ≡ length codes
  as_many = sym (length-map found (λ e. e.number)) ∙ ap length h.numbers ∙ length-map codes number_of

  -- each explains the one at its index
  explains_at : (k : ℕ) (d : Explanation) (c : FaultCode) → k < length found
      → Explains (get_or codes k c) (get_or found k d)
  explains_at k d c lt =
      let within : k < length codes = omega (arith, as_many) in
      let number = sym (get_or-map (λ e. e.number) found k d 0 lt) ∙ ap (λ ns. get_or ns k 0) h.numbers in
      let name = sym (get_or-map (λ e. e.name.now) found k d [] lt) ∙ ap (λ ns. get_or ns k []) h.names in
      (number ∙ get_or-map number_of codes k c 0 within, name ∙ get_or-map name_of codes k c [] within)

-- an element at each index
element_at : {X : Type 0} (xs : List X) (k : ℕ) → k < length xs → (x : X) × (get_or xs k x ≡ x)
element_at [] k lt = absurd (omega arith)
element_at (x ∷ xs) zero lt = (x, refl)
element_at (x ∷ xs) (suc k) lt = element_at xs k (omega arith)

-- one that is listed, but for its fields, is explained
explained : (codes : List FaultCode) (found : List Explanation) (code : FaultCode) → ExplainInTurn codes found
    → list_any (is_same code) codes ≡ true → Any (Explains code) found
explained codes found code h e =
    let any = Any-from_list_any (is_same code) codes e in
    let within : any.0 < length found = omega (arith, as_many h, any.2) in
    let element = element_at found any.0 within in
    let same = same_parts code any.1 any.4 in
    let found_there = get_or found any.0 element.0 in
    let explains = subst (λ x. Explains x found_there) any.3 (explains_at h any.0 element.0 any.1 within) in
    let at = subst (Explains any.1) element.1 explains in
    (any.0, element.0, within, element.1, (at.0 ∙ same.0, at.1 ∙ same.1))

-- a name is that of each code with the same number and name
same_name : (name : List ℕ) (code other : FaultCode) → IsTrue (is_named name code) → is_same code other ≡ true
    → is_named name other ≡ true
same_name name code other h e =
    subst (λ n. str_eq_ignore_ascii_case n name ≡ true) (sym (same_parts code other e).1) h

-- those that are explained in turn are the explanations of the name
pub are_of_name : (name : List ℕ) (found : List Explanation) → ExplainInTurn (filter (is_named name) ALL) found
    → AreOfName name found
are_of_name name found h = record {
  sound =
      λ k d lt.
      let codes = filter (is_named name) ALL in
      let within : k < length codes = omega (arith, as_many h) in
      let named = filter_passes (is_named name) ALL k NotNeutral within in
      (get_or codes k NotNeutral, named, explains_at h k d NotNeutral lt);
  complete =
      λ code named.
      explained (filter (is_named name) ALL) found code h
      (any-filter_same (is_same code) (is_named name) true (λ other e. same_name name code other named e) ALL
      ∙ all_listed code);
  rising = subst IsStrictlyIncreasing (sym h.numbers) (numbers_rise (is_named name));
}
