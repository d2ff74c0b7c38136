-- Dithered points, one sample and frame after frame.
use Rattle.std.proofs.Common.{◌≡◌, ◌≤◌, ◌<◌, ◌+◌, ◌*◌, ◌^◌, ℕ, zero, suc, Bool, true, false, refl, ap}
use Rattle.std.proofs.Common.{sym, ◌∙◌, arith, List, [], ◌∷◌, ◌++◌, length, take, drop, map}
use Rattle.std.proofs.Common.{ℤ, pos, negsuc, neg_ℤ, ◌+ℤ◌, ◌-ℤ◌, ◌*ℤ◌, unsigned_abs, w16, Option, Some, None, ltb}
use Rattle.std.specs.Prelude.{min}
use Rattle.std.specs.Int.{saturate_signed, is_negative}
use Rattle.std.specs.List.{flat_map, enumerate_from}
use Rattle.std.proofs.lemmas.Int.{ints}
use Rattle.std.proofs.lemmas.Bool.{le-ltb, cond_both}
use Rattle.std.proofs.lemmas.List.{append_assoc}
use Rattle.std.proofs.Math.Nat.{zero-mul}
use Rattle.rand_pcg.specs.Lcg.{Lcg, next, advance, started, increment_of, state_after}
use Rattle.rand_pcg.specs.Pcg.{multiplier_64, output_xsh_rr}
use Rattle.hydra_records.proofs.TableLaws.{records-short, records-next}
use Rattle.sample_view.specs.Words.{word_bytes, AreWords}
use Rattle.pcm_points.specs.declared.encoding.SampleEncoding.{SampleEncoding}
use Rattle.pcm_points.specs.Samples.{size_of}
use Rattle.pcm_points.specs.Points.{nearest, most, with_sign, sample_in, channel_samples, channel_words}
use Rattle.pcm_points.specs.Dither.{wide, triangular, dithered_word, dithered_words, reduced_words}
use Rattle.pcm_points.specs.Laws.{DitherIsNear}
use Rattle.pcm_points.proofs.ChannelLaws.{point_fits, words_fit}

-- ---- a point is near its sample

saturated : (sign : Bool) (n : ℕ) → with_sign sign (min n (most 16 sign)) ≡ saturate_signed w16 (with_sign sign n)
saturated false n = refl
saturated true zero = refl
saturated true (suc n) =
    let less : min (suc n) 32768 ≡ suc (min n 32767) = omega arith in
    rw less refl

near : (word : ℕ) (units sum : ℤ) → word < 2 ^ 32 → sum ≡ units +ℤ triangular word
    → unsigned_abs (with_sign (is_negative sum) (nearest (unsigned_abs sum) (2 ^ 16)) *ℤ pos (2 ^ 16) -ℤ units)
    ≤ 65535 + 32768
near word units (pos a) h e = rw (le-ltb a 0 (omega arith)) (omega (arith, ints, h, e))
near word units (negsuc a) h e = rw (times (nearest (suc a) (2 ^ 16)) (2 ^ 16)) (omega (arith, ints, h, e))
  where
    times : (n k : ℕ) → neg_ℤ (pos n) *ℤ pos k ≡ neg_ℤ (pos (n * k))
    times zero k = rw (zero-mul k) refl
    times (suc n) k = refl

pub dither_is_near : DitherIsNear
dither_is_near word units h =
    let sum = units +ℤ triangular word in
    let n = nearest (unsigned_abs sum) (2 ^ 16) in
    (with_sign (is_negative sum) n, near word units sum h refl, saturated (is_negative sum) n)

-- ---- the noise, word after word

-- word i of a generator
abbrev noise_of : Lcg → ℕ → ℕ
noise_of g i = output_xsh_rr (advance 64 multiplier_64 i g).state

abbrev words_of : Lcg → ℕ → List ℤ → List ℕ
words_of g i samples = map (λ frame. dithered_word (noise_of g frame.0) frame.1) (enumerate_from i samples)

later : (g : Lcg) (i : ℕ) → noise_of g (i + 1) ≡ noise_of (next 64 multiplier_64 g) i
unfolding state_after
later g i = let following : i + 1 ≡ suc i = omega arith in rw following refl

later_words : (g : Lcg) (i : ℕ) (samples : List ℤ)
    → words_of g (i + 1) samples ≡ words_of (next 64 multiplier_64 g) i samples
later_words g i [] = refl
later_words g i (v ∷ vs) = λ j. dithered_word (later g i j) v ∷ later_words g (i + 1) vs j

-- ---- words fit into 16 bits

dithered_fit : (g : Lcg) (i : ℕ) (samples : List ℤ) → AreWords (words_of g i samples)
dithered_fit g i [] = tt
dithered_fit g i (v ∷ vs) =
    let sum = v +ℤ triangular (noise_of g i) in
    (point_fits (is_negative sum) (nearest (unsigned_abs sum) (2 ^ 16)), dithered_fit g (i + 1) vs)

pub reduced_fit : (dither : Option ℕ) (e : SampleEncoding) (channels channel : ℕ) (bytes : List ℕ)
    → AreWords (reduced_words dither e channels channel bytes)
reduced_fit None e channels channel bytes = words_fit e channels channel bytes
reduced_fit (Some seed) e channels channel bytes =
    cond_both (ltb 2 (size_of e)) (dithered_words seed e channels channel bytes)
    (channel_words e channels channel bytes)
    AreWords
    (λ _. dithered_fit (started 64 multiplier_64 seed (increment_of 64 channel)) 0
    (channel_samples (wide e) e channels channel bytes))
    (λ _. words_fit e channels channel bytes)

-- ---- frame after frame

module _ (encoding : SampleEncoding) (channels channel : ℕ) where
  abbrev F : ℕ
  F = channels * size_of encoding

  abbrev units_in : List ℕ → ℤ
  units_in frame = wide encoding (sample_in (size_of encoding) channel frame)

  abbrev pub dithered_bytes : Lcg → List ℕ → List ℕ
  dithered_bytes g bytes =
      flat_map word_bytes (words_of g 0 (channel_samples (wide encoding) encoding channels channel bytes))

  pub no_dithered_frame : (g : Lcg) (bytes : List ℕ) → length bytes < F → dithered_bytes g bytes ≡ []
  no_dithered_frame g bytes h =
      ap (λ (vs : List ℤ). flat_map word_bytes (words_of g 0 vs)) (records-short F units_in bytes h)

  next_frame : (g : Lcg) (bytes : List ℕ) → 0 < F → F ≤ length bytes
      → dithered_bytes g bytes
      ≡ word_bytes (dithered_word (output_xsh_rr g.state) (units_in (take F bytes)))
      ++ dithered_bytes (next 64 multiplier_64 g) (drop F bytes)
  unfolding state_after
  next_frame g bytes some h =
      ap (λ (vs : List ℤ). flat_map word_bytes (words_of g 0 vs)) (records-next F units_in bytes some h)
      ∙ ap
      (λ (ws : List ℕ).
      word_bytes (dithered_word (output_xsh_rr g.state) (units_in (take F bytes))) ++ flat_map word_bytes ws)
      (later_words g 0 (channel_samples (wide encoding) encoding channels channel (drop F bytes)))

  -- the points so far and the first of the rest, followed by all others, by what the calls of an iteration give
  pub after_dithered_frame : (size : ℕ) → size ≡ size_of encoding
      → (g following : Lcg) (points rest new others : List ℕ) (word : ℕ)
      → 0 < channels * size → channels * size ≤ length rest
      → others ≡ drop (channels * size) rest
      → word
      ≡ dithered_word (output_xsh_rr g.state)
      (wide encoding (take size (drop (channel * size) (take (channels * size) rest))))
      → following ≡ next 64 multiplier_64 g
      → new ≡ points ++ word_bytes word → new ++ dithered_bytes following others ≡ points ++ dithered_bytes g rest
  after_dithered_frame size is g following points rest new others word some fits left first step whole =
      let word_is : word ≡ dithered_word (output_xsh_rr g.state) (units_in (take F rest)) =
      first
      ∙ (λ i. dithered_word (output_xsh_rr g.state)
      (wide encoding (take (is i) (drop (channel * is i) (take (channels * is i) rest))))) in
      let others_are : others ≡ drop F rest = left ∙ ap (λ (n : ℕ). drop (channels * n) rest) is in
      (λ i. (whole ∙ ap (λ (w : ℕ). points ++ word_bytes w) word_is) i ++ dithered_bytes (step i) (others_are i))
      ∙ append_assoc points (word_bytes (dithered_word (output_xsh_rr g.state) (units_in (take F rest))))
      (dithered_bytes (next 64 multiplier_64 g) (drop F rest))
      ∙ ap (λ (bs : List ℕ). points ++ bs) (sym (next_frame g rest (rw is at some) (rw is at fits)))
