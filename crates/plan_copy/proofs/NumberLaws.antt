-- The numbers of a preset's copy.
use Rattle.std.proofs.Common.{◌≡◌, ◌<◌, ◌≤◌, ℕ, zero, suc, ◌+◌, Bool, true, false, cond, List, [], ◌∷◌, length, map, drop}
use Rattle.std.proofs.Common.{Option, Some, None, Ok, Err, slice_get, not, refl, sym, ap, subst, ◌∙◌, arith}
use Rattle.std.specs.Prelude.{ok_or}
use Rattle.std.specs.List.{find, range_with_len}
use Rattle.std.specs.Option.{option_map, option_map_or}
use Rattle.std.proofs.lemmas.Option.{slice_get-map}
use Rattle.bank_parts.specs.declared.parts.Head.{Head}
use Rattle.bank_parts.specs.declared.parts.ZoneOwner.{ZoneOwner}
use Rattle.bank_parts.specs.declared.parts.Parts.{Parts}
use Rattle.zone_select.proofs.NumberLaws.{first_hit, first_miss}
use Rattle.plan_presets.specs.declared.fault.PresetFault.TheVariants.{InUse, NoneFree}
use Rattle.plan_presets.specs.declared.numbers.PresetNumbers.{PresetNumbers}
use Rattle.plan_take.specs.Taking.{has_preset}
use Rattle.plan_take.proofs.SearchLaws.{find_past_end}
use Rattle.plan_copy.specs.declared.numbers.TheConstants.{CANDIDATES}
use Rattle.plan_copy.specs.Copying.{candidate, candidates, free_numbers, numbers_for}

-- ---- the candidates in order

range_at : (a n i : ℕ) → i < n → slice_get (range_with_len a n) i ≡ Some (a + i)
range_at a zero i lt = absurd (omega arith)
range_at a (suc n) zero lt = let same : a ≡ a + 0 = omega arith in ap Some same
range_at a (suc n) (suc i) lt =
    let same : a + 1 + i ≡ a + suc i = omega arith in range_at (a + 1) n i (omega arith) ∙ ap Some same

length-range : (a n : ℕ) → length (range_with_len a n) ≡ n
length-range a zero = refl
length-range a (suc n) = ap suc (length-range (a + 1) n)

length-mapped : {X Y : Type 0} (f : X → Y) (xs : List X) → length (map f xs) ≡ length xs
length-mapped f [] = refl
length-mapped f (x ∷ xs) = ap suc (length-mapped f xs)

candidate_at : (k : PresetNumbers) (n : ℕ) → n < CANDIDATES → slice_get (candidates k) n ≡ Some (candidate k n)
unfolding candidates
candidate_at k n lt =
    let same : 0 + n ≡ n = omega arith in
    slice_get-map (candidate k) (range_with_len 0 CANDIDATES) n
    ∙ ap (option_map (candidate k)) (range_at 0 CANDIDATES n lt ∙ ap Some same)

candidate_count : (k : PresetNumbers) → length (candidates k) ≡ CANDIDATES
unfolding candidates
candidate_count k = length-mapped (candidate k) (range_with_len 0 CANDIDATES) ∙ length-range 0 CANDIDATES

-- ---- the first that passes a test

module _ (test : PresetNumbers → Bool) (k : PresetNumbers) (n : ℕ) where
  at_candidate : (q : Bool) → n < CANDIDATES → test (candidate k n) ≡ q
      → option_map_or test (slice_get (candidates k) n) false ≡ q
  at_candidate q lt e = ap (λ o. option_map_or test o false) (candidate_at k n lt) ∙ e

  pub next_passes : n < CANDIDATES → find test (candidates k) ≡ find test (drop n (candidates k))
      → test (candidate k n) ≡ true → find test (candidates k) ≡ Some (candidate k n)
  next_passes lt so_far e =
      first_hit test (candidates k) n so_far (at_candidate true lt e) ∙ candidate_at k n lt

  pub next_fails : n < CANDIDATES → test (candidate k n) ≡ false
      → find test (drop n (candidates k)) ≡ find test (drop (n + 1) (candidates k))
  next_fails lt e =
      first_miss test (candidates k) n (subst (λ m. n < m) (sym (candidate_count k)) lt) (at_candidate false lt e)

  pub none_passes : CANDIDATES ≤ n → find test (drop n (candidates k)) ≡ None
  none_passes all = find_past_end test (candidates k) n (subst (λ m. m ≤ n) (sym (candidate_count k)) all)

-- whether no preset of a bank has a candidate, by what a call returned
pub not_used : (presets of_bank : List (ZoneOwner Head)) (m k : PresetNumbers) (r q : Bool) → r ≡ has_preset presets m
    → presets ≡ of_bank → m ≡ k → r ≡ q → not (has_preset of_bank k) ≡ not q
not_used presets of_bank m k r q returned same is e =
    ap not (sym (λ i. has_preset (same i) (is i)) ∙ sym returned ∙ e)

-- ---- the numbers of a copy are free

passes_first : {X : Type 0} (test : X → Bool) (q : Bool) (y x : X) (rest : Option X) → test y ≡ q
    → (rest ≡ Some x → test x ≡ true) → cond q (Some y) rest ≡ Some x → test x ≡ true
passes_first test true y x rest passes later h = let same : y ≡ x = cc in ap test (sym same) ∙ passes
passes_first test false y x rest fails later h = later h

found_passes : {X : Type 0} (test : X → Bool) (xs : List X) (x : X) → find test xs ≡ Some x → test x ≡ true
found_passes test [] x e = absurd cc
found_passes test (y ∷ ys) x e = passes_first test (test y) y x (find test ys) refl (found_passes test ys x) e

not_true : (q : Bool) → not q ≡ true → q ≡ false
not_true true e = absurd cc
not_true false e = refl

some_if_ok : {X E : Type 0} (o : Option X) (fault : E) (x : X) → ok_or o fault ≡ Ok x → o ≡ Some x
some_if_ok None fault x e = absurd cc
some_if_ok (Some y) fault x e = let same : y ≡ x = cc in ap Some same

given_free : (used : PresetNumbers → Bool) (given k : PresetNumbers) (q : Bool) → used given ≡ q
    → cond q (Err (InUse given)) (Ok given) ≡ Ok k → used k ≡ false
given_free used given k true u e = absurd cc
given_free used given k false u e = let same : given ≡ k = cc in subst (λ n. used n ≡ false) same u

pub are_free : (b : Parts) (original k : PresetNumbers) (given : Option PresetNumbers)
    → numbers_for b original given ≡ Ok k → has_preset b.presets k ≡ false
are_free b original k (Some given) e =
    given_free (has_preset b.presets) given k (has_preset b.presets given) refl e
are_free b original k None e =
    not_true (has_preset b.presets k)
    (found_passes (λ (n : PresetNumbers). not (has_preset b.presets n)) (candidates original) k
    (some_if_ok (free_numbers b original) (NoneFree original) k e))
