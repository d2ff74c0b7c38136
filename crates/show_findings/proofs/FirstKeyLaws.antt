-- The keys of presets, and the first preset with each.
use Rattle.std.proofs.Common.{◌≡◌, ◌≤◌, ◌<◌, ℕ, zero, suc, ◌+◌, ◌*◌, ◌&&◌, List, [], ◌∷◌, length, take, map}
use Rattle.std.proofs.Common.{refl, sym, ap, ◌∙◌, arith, cond, Option, Some, slice_get, slice_index}
use Rattle.std.specs.Prelude.{◌==◌}
use Rattle.std.specs.List.{position_from, filter_map, cons_option, range_with_len, AllByRecursion}
use Rattle.std.specs.Option.{option_map}
use Rattle.std.proofs.lemmas.List.{length-map}
use Rattle.std.proofs.lemmas.Bool.Decides.{nat_tests}
use Rattle.bank_parts.specs.declared.parts.Head.{Head}
use Rattle.bank_parts.specs.declared.parts.ZoneOwner.{ZoneOwner}
use Rattle.bank_parts.specs.declared.parts.Parts.{Parts}
use Rattle.bank_parts.specs.Fits.{FitsOwner, FitsHead}
use Rattle.bank_changes.specs.Members.{head_of}
use Rattle.show_findings.specs.declared.finding.Finding.TheVariants.{HiddenPreset}
use Rattle.show_findings.specs.Numbers.{numbers}
use Rattle.show_findings.proofs.GatherLaws.{all_some}
use Rattle.show_findings.specs.Presets.{has_numbers_of, first_preset, hidden_preset, hidden_presets, key_of, keys_in, repeated}

-- ---- options of consecutive numbers

-- options of the members of a list, read by their numbers
module _ {X Y : Type 0} (g : Option X → Option Y) where
  pub read_from : (xs : List X) (h : ℕ → Option X) (a : ℕ) → ((k : ℕ) → h (a + k) ≡ slice_get xs k)
      → filter_map (λ k. g (h k)) (range_with_len a (length xs)) ≡ filter_map (λ x. g (Some x)) xs
  read_from [] h a e = refl
  read_from (x ∷ xs) h a e =
      let first : h a ≡ Some x = (let z : a + 0 ≡ a = omega arith in sym (ap h z) ∙ e 0) in
      (λ i. cons_option (g (first i)) (filter_map (λ k. g (h k)) (range_with_len (a + 1) (length xs))))
      ∙ ap (cons_option (g (Some x)))
      (read_from xs h (a + 1)
      (λ k. (let s : a + 1 + k ≡ a + suc k = omega arith in ap h s) ∙ e (suc k)))

  pub read_all : (xs : List X) → filter_map (λ k. g (slice_get xs k)) (numbers (length xs)) ≡ filter_map (λ x. g (Some x)) xs
  read_all xs = read_from xs (slice_get xs) 0 (λ k. (let z : 0 + k ≡ k = omega arith in ap (slice_get xs) z))

pub keys_read : (b : Parts) → filter_map (λ p. option_map key_of (head_of b p)) (numbers (length b.presets)) ≡ keys_in b
keys_read b =
    read_all (λ (o : Option (ZoneOwner Head)). option_map key_of (option_map (λ (x : ZoneOwner Head). x.head) o)) b.presets
    ∙ all_some (λ (x : ZoneOwner Head). key_of x.head) b.presets

-- ---- equal keys are equal numbers

both : (p q r s : ℕ) → p < 65536 → q < 65536 → r < 65536 → s < 65536 → (p == r && q == s) ≡ (65536 * p + q == 65536 * r + s)
both p q r s a b c d = grind (arith, nat_tests)

same_key : (h : Head) (x : ZoneOwner Head) → FitsHead h → FitsHead x.head
    → (key_of x.head == key_of h) ≡ has_numbers_of h x
same_key h x f g =
    sym (both x.head.bank x.head.number h.bank h.number g.bank g.number f.bank f.number)

-- the first preset with a key
first_key : (h : Head) → FitsHead h → (xs : List (ZoneOwner Head)) (i : ℕ) → AllByRecursion (FitsOwner FitsHead) xs
    → position_from (λ k. k == key_of h) i (map (λ (x : ZoneOwner Head). key_of x.head) xs)
    ≡ position_from (has_numbers_of h) i xs
first_key h f [] i all = refl
first_key h f (x ∷ xs) i all =
    ap
    (λ t. cond t (Some i) (position_from (λ k. k == key_of h) (i + 1) (map (λ (y : ZoneOwner Head). key_of y.head) xs)))
    (same_key h x f all.0.head)
    ∙ ap (cond (has_numbers_of h x) (Some i)) (first_key h f xs (i + 1) all.1)

fit_first : (p : ℕ) (xs : List (ZoneOwner Head)) → AllByRecursion (FitsOwner FitsHead) xs
    → AllByRecursion (FitsOwner FitsHead) (take p xs)
fit_first zero xs all = tt
fit_first (suc p) [] all = tt
fit_first (suc p) (x ∷ xs) all = (all.0, fit_first p xs all.1)

take_keys : {X : Type 0} (f : X → ℕ) (p : ℕ) (xs : List X) → take p (map f xs) ≡ map f (take p xs)
take_keys f zero xs = refl
take_keys f (suc p) [] = refl
take_keys f (suc p) (x ∷ xs) = ap (λ ys. f x ∷ ys) (take_keys f p xs)

-- a member that there is, with its key
found_key : (xs : List (ZoneOwner Head)) (p : ℕ) → p < length xs → AllByRecursion (FitsOwner FitsHead) xs
    → (x : ZoneOwner Head) × (slice_get xs p ≡ Some x) × FitsHead x.head
    × (slice_index (map (λ (y : ZoneOwner Head). key_of y.head) xs) p ≡ key_of x.head)
found_key [] p lt all = absurd (omega (arith, lt))
found_key (x ∷ xs) zero lt all = (x, refl, all.0.head, refl)
found_key (x ∷ xs) (suc p) lt all = found_key xs p (omega (arith, lt)) all.1

-- options that agree on a range of numbers
pub options_same : {X : Type 0} (g h : ℕ → Option X) (n a : ℕ) → ((k : ℕ) → a ≤ k → k < a + n → g k ≡ h k)
    → filter_map g (range_with_len a n) ≡ filter_map h (range_with_len a n)
options_same g h zero a e = refl
options_same {X} g h (suc n) a e =
    ap (λ (o : Option X). cons_option o (filter_map g (range_with_len (a + 1) n))) (e a (omega arith) (omega arith))
    ∙ ap (cons_option (h a))
    (options_same g h n (a + 1) (λ k le lt. e k (omega (arith, le)) (omega (arith, lt))))

module _ (b : Parts) (all : AllByRecursion (FitsOwner FitsHead) b.presets) where
  hidden_at : (p : ℕ) → p < length b.presets → repeated (keys_in b) p ≡ hidden_preset b p
  hidden_at p lt =
      let (x, is, fits, key) = found_key b.presets p lt all in
      let first : position_from (λ k. k == slice_index (keys_in b) p) 0 (take p (keys_in b))
      ≡ first_preset (has_numbers_of x.head) (take p b.presets) =
      ap (λ n. position_from (λ k. k == n) 0 (take p (keys_in b))) key
      ∙ ap (position_from (λ k. k == key_of x.head) 0)
      (take_keys (λ (y : ZoneOwner Head). key_of y.head) p b.presets)
      ∙ first_key x.head fits (take p b.presets) 0 (fit_first p b.presets all) in
      rw is (ap (option_map (λ (q : ℕ). HiddenPreset p q)) first)

  pub hidden_by_keys : filter_map (repeated (keys_in b)) (numbers (length (keys_in b))) ≡ hidden_presets b
  unfolding hidden_presets
  hidden_by_keys =
      ap (λ n. filter_map (repeated (keys_in b)) (numbers n)) (length-map b.presets (λ (x : ZoneOwner Head). key_of x.head))
      ∙ options_same (repeated (keys_in b)) (hidden_preset b) (length b.presets) 0
      (λ k le lt. hidden_at k (omega (arith, lt)))
