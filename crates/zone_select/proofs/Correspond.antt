-- Two banks whose zones have the same voices for each note, or that have the same pairs: each note has the same voices
-- in both, and the pairs correspond.
use Rattle.std.proofs.Common.{◌≡◌, ℕ, zero, suc, Option, List, [], ◌∷◌, map, slice_set, slice_index_or, refl}
use Rattle.std.proofs.Common.{sym, ap, subst, ◌∙◌}
use Rattle.std.specs.List.{swap, flat_map}
use Rattle.std.specs.List.Sorted.{IsPermutation, SwapsInRange, apply_swaps}
use Rattle.std.proofs.lemmas.List.{length-map, map-set}
use Rattle.std.proofs.lemmas.List.Sorted.{IsPermutation-refl, IsPermutation-sym}
use Rattle.bank_parts.specs.declared.parts.Parts.{Parts}
use Rattle.zone_select.specs.Select.{Voice, selected}
use Rattle.zone_select.specs.Pairs.{pairs, voice_by, listed}
use Rattle.zone_select.specs.Alike.{AreAlike, HavePairsAlike, HaveSamePairs}
use Rattle.zone_select.proofs.Given.{given, GivenAlike}
use Rattle.zone_select.proofs.PairLaws.{selected_is, selected_by_pairs, voices_by_pairs}

-- ---- a list whose images are permuted

module _ {X Y : Type 0} (f : X → Y) where
  index_or-map : (xs : List X) (k : ℕ) (d : X) → slice_index_or (map f xs) k (f d) ≡ f (slice_index_or xs k d)
  index_or-map [] k d = refl
  index_or-map (x ∷ xs) zero d = refl
  index_or-map (x ∷ xs) (suc k) d = index_or-map xs k d

  map-swap : (xs : List X) (i j : ℕ) → map f (swap xs i j) ≡ swap (map f xs) i j
  map-swap [] i j = refl
  map-swap (d ∷ ys) i j =
      let xs : List X = d ∷ ys in
      let x : X = slice_index_or xs i d in
      let y : X = slice_index_or xs j d in
      map-set f (slice_set xs i y) j x
      ∙ (λ t.
      slice_set ((map-set f xs i y ∙ ap (slice_set (map f xs) i) (sym (index_or-map xs j d))) t) j
      (sym (index_or-map xs i d) t))

  map-swaps : (xs : List X) (moves : List (ℕ × ℕ)) → map f (apply_swaps xs moves) ≡ apply_swaps (map f xs) moves
  map-swaps xs [] = refl
  map-swaps xs (p ∷ moves) = map-swap (apply_swaps xs moves) p.0 p.1 ∙ ap (λ l. swap l p.0 p.1) (map-swaps xs moves)

  -- the members can be permuted in the same way
  pub ordered_as : (xs : List X) (ys : List Y) → IsPermutation (map f xs) ys
      → (zs : List X) × IsPermutation xs zs × (ys ≡ map f zs)
  ordered_as xs ys h = (
    apply_swaps xs h.moves,
    record {
      moves = h.moves;
      below = subst (λ (k : ℕ). SwapsInRange k h.moves) (length-map xs f) h.below;
      is = refl;
    },
    h.is ∙ sym (map-swaps xs h.moves),
  )

-- ---- two banks whose zones have the same voices

pub alike : (b c : Parts) → GivenAlike listed b c → AreAlike b c
alike b c h n =
    subst (λ vs. IsPermutation vs (selected c n)) (selected_is b n)
    (subst (IsPermutation (given listed b n)) (selected_is c n) (h n))

-- a sample's voice, or none if the sample doesn't exist
abbrev pub one : Option Voice → List (Option Voice)
one o = o ∷ []

pub pairs_alike : (b c : Parts) → GivenAlike one b c → HavePairsAlike b c
pairs_alike b c h n =
    let back : IsPermutation (map (voice_by c n) (pairs c n)) (map (voice_by b n) (pairs b n)) =
    subst (λ vs. IsPermutation vs (map (voice_by b n) (pairs b n))) (sym (voices_by_pairs c n))
    (subst (IsPermutation (given one c n)) (sym (voices_by_pairs b n))
    (IsPermutation-sym (given one b n) (given one c n) (h n)))
    in
    let zs = ordered_as (voice_by c n) (pairs c n) (map (voice_by b n) (pairs b n)) back in
    record { others = zs.0; one_to_one = zs.1; same_voices = zs.2 }

-- ---- two banks with the same pairs

pub alike_by_same : (b c : Parts) → HaveSamePairs b c → AreAlike b c
alike_by_same b c h n =
    let same : flat_map (λ q. listed (voice_by b n q)) (pairs b n)
    ≡ flat_map (λ q. listed (voice_by c n q)) (pairs c n) =
    λ i. flat_map (λ q. listed ((h n).1 q i)) ((h n).0 i) in
    subst (IsPermutation (selected b n)) (sym (selected_by_pairs b n) ∙ same ∙ selected_by_pairs c n)
    (IsPermutation-refl (selected b n))

pub pairs_by_same : (b c : Parts) → HaveSamePairs b c → HavePairsAlike b c
pairs_by_same b c h n = record {
  others = pairs c n;
  one_to_one = IsPermutation-refl (pairs c n);
  same_voices = λ i. map (λ q. (h n).1 q i) ((h n).0 i);
}
