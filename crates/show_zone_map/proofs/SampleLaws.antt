-- The bits of a set of samples.
use Rattle.std.proofs.Common.{◌≡◌, ◌≢◌, ◌<◌, inl, inr, ℕ, ◌*◌, ◌/◌, ◌%◌, ◌^◌, ◌||◌, Bool, true, false, List, length, replicate, set, refl, sym, ap, ◌∙◌, arith}
use Rattle.std.specs.Prelude.{◌==◌, bit_or, slice_index}
use Rattle.std.specs.Int.{bit_at}
use Rattle.std.proofs.lemmas.Bool.{cases_eq, eqb-true, eqb-false}
use Rattle.std.proofs.lemmas.List.{get_or-replicate, get_or-set_same, get_or-set_other}
use Rattle.std.proofs.lemmas.Nat.{div-add-mod'}
use Rattle.std.proofs.lemmas.Nat.Bits.{bit_at-zero, bit_at_set_same, bit_at_set_other}
use mir.Syntax.{w64}
use Rattle.show_zone_map.specs.Samples.{has_sample}

-- no bit is set in zeros
pub none_in_zeros : (s : ℕ) → s < 2 ^ 16 → has_sample (replicate 1024 0) s ≡ false
none_in_zeros s small =
    let inside : s / 64 < 1024 = omega (arith, small) in
    ap (λ w. bit_at w (s % 64) == 1) (get_or-replicate 1024 (s / 64) 0 0 inside)
    ∙ ap (λ bit. bit == 1) (bit_at-zero (s % 64))

-- a word with one more bit
abbrev with_bit : ℕ → ℕ → ℕ
with_bit word i = bit_or word (1 * 2 ^ i % 2 ^ 64)

module _ (words : List ℕ) (x : ℕ) (inside : x / 64 < length words) where
  abbrev inserted : List ℕ
  inserted = set words (x / 64) (with_bit (slice_index words (x / 64)) (x % 64))

  word_of_x : slice_index inserted (x / 64) ≡ with_bit (slice_index words (x / 64)) (x % 64)
  word_of_x = get_or-set_same words (x / 64) (with_bit (slice_index words (x / 64)) (x % 64)) 0 inside

  bit_is_below : x % 64 < 64
  bit_is_below = omega arith

  same : has_sample inserted x ≡ true
  same =
      ap (λ w. bit_at w (x % 64) == 1) word_of_x
      ∙ ap (λ bit. bit == 1) (bit_at_set_same w64 (slice_index words (x / 64)) (x % 64) bit_is_below)

  other_word : (s : ℕ) → s / 64 ≢ x / 64 → has_sample inserted s ≡ has_sample words s
  other_word s ne = ap (λ w. bit_at w (s % 64) == 1) (get_or-set_other words (x / 64) (s / 64) _ 0 ne)

  other_bit : (s : ℕ) → s / 64 ≡ x / 64 → s % 64 ≢ x % 64 → has_sample inserted s ≡ has_sample words s
  other_bit s e ne =
      ap (λ k. bit_at (slice_index inserted k) (s % 64) == 1) e ∙ ap (λ w. bit_at w (s % 64) == 1) word_of_x
      ∙ ap (λ bit. bit == 1) (bit_at_set_other w64 (slice_index words (x / 64)) (x % 64) bit_is_below (s % 64) ne)
      ∙ ap (λ k. bit_at (slice_index words k) (s % 64) == 1) (sym e)

  other : (s : ℕ) → s ≢ x → has_sample inserted s ≡ has_sample words s
  other s ne = elim (cases_eq (s / 64) (x / 64)) [
    | inl e ↦
        let d = div-add-mod' s 64 in
        let f = div-add-mod' x 64 in
        other_bit s e (λ m. ne (omega (arith, d, f, e, m)))
    | inr word ↦ other_word s word
  ]

  -- the set with one more sample
  pub sample_inserted : (s : ℕ) → has_sample inserted s ≡ (s == x || has_sample words s)
  sample_inserted s = by_cases (s == x) refl
    where
      by_cases : (b : Bool) → (s == x) ≡ b → has_sample inserted s ≡ (b || has_sample words s)
      by_cases true e = ap (has_sample inserted) (eqb-true s x e) ∙ same
      by_cases false e = other s (λ k. eqb-false s x e k)
