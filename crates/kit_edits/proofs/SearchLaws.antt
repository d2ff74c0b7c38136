-- The first members of a list that pass a test.
use Rattle.std.proofs.Common.{◌≡◌, ◌≤◌, ◌<◌, ◌+◌, ◌||◌, ℕ, zero, suc, Bool, true, false, cond, List, [], ◌∷◌, length, drop}
use Rattle.std.proofs.Common.{map, Option, Some, None, slice_get, refl, sym, ap, subst, ◌∙◌, arith}
use Rattle.std.specs.Prelude.{unwrap_or}
use Rattle.std.specs.List.{find, list_any, range_with_len}
use Rattle.std.specs.Option.{option_map}
use Rattle.bank_parts.specs.declared.parts.Head.{Head}
use Rattle.bank_parts.specs.declared.parts.ZoneOwner.{ZoneOwner}
use Rattle.plan_presets.specs.declared.numbers.PresetNumbers.{PresetNumbers}
use Rattle.kit_edits.specs.declared.names.TheConstants.{CANDIDATES}
use Rattle.kit_edits.specs.Members.{is_numbered}
use Rattle.kit_edits.specs.Names.{own_length, candidate, candidates, is_free, free_name}

next : (i : ℕ) → suc i ≡ i + 1
next i = omega arith

-- ---- presets with some numbers

module _ (k : PresetNumbers) where
  abbrev pub passes : ZoneOwner Head → Bool
  passes p = is_numbered k p.head

  head_there : (presets : List (ZoneOwner Head)) (i : ℕ) (h : Head)
      → option_map (λ (p : ZoneOwner Head). p.head) (slice_get presets i) ≡ Some h
      → list_any passes (drop i presets) ≡ is_numbered k h || list_any passes (drop (suc i) presets)
  head_there [] i h e = cc
  head_there (p ∷ ps) zero h e =
      let same : p.head ≡ h = cc in ap (λ (x : Head). is_numbered k x || list_any passes ps) same
  head_there (p ∷ ps) (suc i) h e = head_there ps i h e

  pub has_none_here : (presets : List (ZoneOwner Head)) (i : ℕ) (h : Head)
      → option_map (λ (p : ZoneOwner Head). p.head) (slice_get presets i) ≡ Some h → is_numbered k h ≡ false
      → list_any passes (drop i presets) ≡ list_any passes (drop (i + 1) presets)
  has_none_here presets i h e not =
      head_there presets i h e
      ∙ ap (λ (b : Bool). b || list_any passes (drop (suc i) presets)) not
      ∙ ap (λ (j : ℕ). list_any passes (drop j presets)) (next i)

  pub has_one_here : (presets : List (ZoneOwner Head)) (i : ℕ) (h : Head)
      → option_map (λ (p : ZoneOwner Head). p.head) (slice_get presets i) ≡ Some h → is_numbered k h ≡ true
      → list_any passes (drop i presets) ≡ true
  has_one_here presets i h e yes_here =
      head_there presets i h e ∙ ap (λ (b : Bool). b || list_any passes (drop (suc i) presets)) yes_here

  pub has_none_past : (presets : List (ZoneOwner Head)) (i : ℕ) → length presets ≤ i
      → list_any passes (drop i presets) ≡ false
  has_none_past [] zero h = refl
  has_none_past [] (suc i) h = refl
  has_none_past (p ∷ ps) zero h = absurd (omega (arith, h))
  has_none_past (p ∷ ps) (suc i) h = has_none_past ps i (omega (arith, h))

-- ---- candidates

range_at : (a n i : ℕ) → i < n → slice_get (range_with_len a n) i ≡ Some (a + i)
range_at a zero i lt = absurd (omega (arith, lt))
range_at a (suc n) zero lt = let same : a ≡ a + 0 = omega arith in ap Some same
range_at a (suc n) (suc i) lt =
    let same : a + 1 + i ≡ a + suc i = omega arith in range_at (a + 1) n i (omega (arith, lt)) ∙ ap Some same

mapped_at : {X Y : Type 0} (f : X → Y) (xs : List X) (i : ℕ) (x : X) → slice_get xs i ≡ Some x
    → slice_get (map f xs) i ≡ Some (f x)
mapped_at f [] i x e = cc
mapped_at f (y ∷ ys) zero x e = let same : y ≡ x = cc in ap (λ z. Some (f z)) same
mapped_at f (y ∷ ys) (suc i) x e = mapped_at f ys i x e

length-range : {Y : Type 0} (f : ℕ → Y) (a n : ℕ) → length (map f (range_with_len a n)) ≡ n
length-range f a zero = refl
length-range f a (suc n) = ap suc (length-range f (a + 1) n)

candidate_at : (n : ℕ) (stem : List ℕ) (i : ℕ) → i < CANDIDATES
    → slice_get (candidates n stem) i ≡ Some (candidate n stem (1 + i))
unfolding candidates
candidate_at n stem i lt =
    mapped_at (candidate n stem) (range_with_len 1 CANDIDATES) i (1 + i) (range_at 1 CANDIDATES i lt)

candidate_count : (n : ℕ) (stem : List ℕ) → length (candidates n stem) ≡ CANDIDATES
unfolding candidates
candidate_count n stem = length-range (candidate n stem) 1 CANDIDATES

find_at : {X : Type 0} (test : X → Bool) (xs : List X) (i : ℕ) (x : X) → slice_get xs i ≡ Some x
    → find test (drop i xs) ≡ cond (test x) (Some x) (find test (drop (suc i) xs))
find_at test [] i x e = cc
find_at test (y ∷ ys) zero x e =
    let same : y ≡ x = cc in ap (λ z. cond (test z) (Some z) (find test ys)) same
find_at test (y ∷ ys) (suc i) x e = find_at test ys i x e

find_past : {X : Type 0} (test : X → Bool) (xs : List X) (i : ℕ) → length xs ≤ i → find test (drop i xs) ≡ None
find_past test [] zero h = refl
find_past test [] (suc i) h = refl
find_past test (x ∷ xs) zero h = absurd (omega (arith, h))
find_past test (x ∷ xs) (suc i) h = find_past test xs i (omega (arith, h))

module _ (test : List ℕ → Bool) (n : ℕ) (stem : List ℕ) (i : ℕ) where
  there : i < CANDIDATES → slice_get (candidates n stem) i ≡ Some (candidate n stem (i + 1))
  there lt =
      let same : 1 + i ≡ i + 1 = omega arith in
      candidate_at n stem i lt ∙ ap (λ (k : ℕ). Some (candidate n stem k)) same

  pub found_here : i < CANDIDATES → find test (candidates n stem) ≡ find test (drop i (candidates n stem))
      → test (candidate n stem (i + 1)) ≡ true
      → find test (candidates n stem) ≡ Some (candidate n stem (i + 1))
  found_here lt so_far is =
      let x : List ℕ = candidate n stem (i + 1) in
      so_far ∙ find_at test (candidates n stem) i x (there lt)
      ∙ ap (λ (b : Bool). cond b (Some x) (find test (drop (suc i) (candidates n stem)))) is

  pub not_here : i < CANDIDATES → test (candidate n stem (i + 1)) ≡ false
      → find test (drop i (candidates n stem)) ≡ find test (drop (i + 1) (candidates n stem))
  not_here lt is =
      let x : List ℕ = candidate n stem (i + 1) in
      find_at test (candidates n stem) i x (there lt)
      ∙ ap (λ (b : Bool). cond b (Some x) (find test (drop (suc i) (candidates n stem)))) is
      ∙ ap (λ (j : ℕ). find test (drop j (candidates n stem))) (next i)

  pub nowhere : CANDIDATES ≤ i → find test (drop i (candidates n stem)) ≡ None
  nowhere all = find_past test (candidates n stem) i (subst (λ m. m ≤ i) (sym (candidate_count n stem)) all)

-- what was found is the free name
pub is_free_name : (used : List ℕ → Bool) (is_stereo : Bool) (stem : List ℕ) (n : ℕ) (name : List ℕ)
    (o : Option (List ℕ))
    → n ≡ own_length is_stereo → find (is_free used is_stereo) (candidates n stem) ≡ o
    → name ≡ unwrap_or o (candidate n stem 1) → name ≡ free_name used is_stereo stem
is_free_name used is_stereo stem n name o length_is found is =
    is
    ∙ ap (λ (p : Option (List ℕ)). unwrap_or p (candidate n stem 1)) (sym found)
    ∙ ap (λ (m : ℕ). unwrap_or (find (is_free used is_stereo) (candidates m stem)) (candidate m stem 1)) length_is
