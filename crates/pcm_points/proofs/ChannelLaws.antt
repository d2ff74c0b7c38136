-- The points of a channel, frame by frame.
use Rattle.std.proofs.Common.{◌≡◌, ◌≤◌, ◌<◌, ◌+◌, ◌-◌, ◌*◌, ◌/◌, ◌%◌, ◌^◌, ℕ, zero, suc, List, [], ◌∷◌, ◌++◌}
use Rattle.std.proofs.Common.{length, take, drop, get_or, Bool, true, false, pos, neg_ℤ, refl, ap, sym, ◌∙◌}
use Rattle.std.proofs.Common.{inl, inr, arith}
use Rattle.std.specs.Prelude.{All, min}
use Rattle.byteorder.specs.Endian.{little_number}
use Rattle.std.specs.List.{flat_map}
use Rattle.std.specs.Int.{w16, cast_unsigned}
use Rattle.std.proofs.lemmas.List.{append_assoc, length-drop}
use Rattle.std.proofs.Math.Nat.{div-eq-sub-div}
use Rattle.std.proofs.lemmas.List.Elements.{All-nil, All-cons, All-append}
use Rattle.std.proofs.lemmas.Bool.{cases_lt, lt-ltb, le-ltb}
use Rattle.hydra_records.specs.Records.{first_records}
use Rattle.hydra_records.proofs.TableLaws.{records-short, records-next}
use Rattle.sample_view.specs.Words.{words, word_bytes, AreWords}
use Rattle.sample_view.proofs.WordLaws.{words_of_bytes, length-word_bytes}
use Rattle.pcm_points.specs.declared.encoding.SampleEncoding.{SampleEncoding}
use Rattle.pcm_points.specs.declared.encoding.SampleEncoding.TheVariants.{Signed16}
use Rattle.pcm_points.specs.Samples.{size_of, integer_fraction, fraction}
use Rattle.pcm_points.specs.Points.{nearest, most, with_sign, point_of, point_word, sample_in, channel_words}
use Rattle.pcm_points.specs.Laws.{SixteenBitsStay}

-- ---- 16-bit samples of one channel

sixteen_bits : (n : ℕ) → n < 65536 → cast_unsigned w16 (point_of (integer_fraction 16 n)) ≡ n
sixteen_bits n h = elim (cases_lt (2 * n) 65536) as (λ _. cast_unsigned w16 (point_of (integer_fraction 16 n)) ≡ n) [
  | inl low ↦ (
      let exact : min (nearest (2 ^ 16 * n) (2 ^ 16)) 32767 ≡ n = omega (arith, low) in
      rw (lt-ltb (2 * n) 65536 low, exact) refl)
  | inr high ↦ (
      let exact : min (nearest (2 ^ 16 * (65536 - n)) (2 ^ 16)) 32768 ≡ suc (65535 - n) = omega (arith, h, high) in
      rw (le-ltb (2 * n) 65536 high, exact) (omega (arith, h)))
]

sixteen_word : (low high : ℕ) → low < 256 → high < 256 → point_word Signed16 (low ∷ high ∷ []) ≡ low + 256 * high
sixteen_word low high low_fits high_fits =
    let number : little_number 2 (low ∷ high ∷ []) ≡ low + 256 * high = omega arith in
    ap (λ (n : ℕ). cast_unsigned w16 (point_of (integer_fraction 16 n))) number
    ∙ sixteen_bits (low + 256 * high) (omega (arith, low_fits, high_fits))

sixteen_frames : (n : ℕ) (bytes : List ℕ) → All (λ b. b < 256) bytes → length bytes ≡ 2 * n
    → first_records 2 (λ frame. point_word Signed16 (sample_in 2 0 frame)) n bytes ≡ words bytes
unfolding words
sixteen_frames zero [] a e = refl
sixteen_frames zero (low ∷ rest) a e = absurd (omega (arith, e))
sixteen_frames (suc n) [] a e = absurd (omega (arith, e))
sixteen_frames (suc n) (low ∷ []) a e = absurd (omega (arith, e))
sixteen_frames (suc n) (low ∷ high ∷ rest) a e =
    let first = sixteen_word low high (a 0 0 (omega arith)) (a 1 0 (omega arith)) in
    let others : All (λ b. b < 256) rest = λ j d h. a (suc (suc j)) d (omega arith) in
    λ i. first i ∷ sixteen_frames n rest others (omega (arith, e)) i

pub sixteen_bits_stay : SixteenBitsStay
sixteen_bits_stay bytes a e = sixteen_frames (length bytes / 2) bytes a (omega (arith, e))

-- The bytes of the points of whole frames are the bytes of these frames.
sixteen_bytes : (n : ℕ) (bytes : List ℕ) → ((k : ℕ) → get_or bytes k 0 < 256) → n * 2 ≤ length bytes
    → flat_map word_bytes (first_records 2 (λ frame. point_word Signed16 (sample_in 2 0 frame)) n bytes)
    ≡ take (n * 2) bytes
unfolding word_bytes
sixteen_bytes zero bytes a h = refl
sixteen_bytes (suc n) [] a h = absurd (omega (arith, h))
sixteen_bytes (suc n) (low ∷ []) a h = absurd (omega (arith, h))
sixteen_bytes (suc n) (low ∷ high ∷ rest) a h =
    let low_fits = a 0 in
    let first = sixteen_word low high low_fits (a 1) in
    let lower : (low + 256 * high) % 256 ≡ low = omega (arith, low_fits) in
    let higher : (low + 256 * high) / 256 ≡ high = omega (arith, low_fits) in
    let two : suc (suc (n * 2)) ≡ suc n * 2 = omega arith in
    (λ i. (ap (λ (w : ℕ). w % 256) first ∙ lower) i
    ∷ (ap (λ (w : ℕ). w / 256) first ∙ higher) i
    ∷ sixteen_bytes n rest (λ k. a (suc (suc k))) (omega (arith, h)) i)
    ∙ ap (λ (m : ℕ). take m (low ∷ high ∷ rest)) two

pub whole_bytes : (bytes : List ℕ) → ((k : ℕ) → get_or bytes k 0 < 256)
    → take (length bytes / 2 * 2) bytes ≡ flat_map word_bytes (channel_words Signed16 1 0 bytes)
whole_bytes bytes a = sym (sixteen_bytes (length bytes / 2) bytes a (omega arith))

word_bytes_fit : (ws : List ℕ) → AreWords ws → All (λ b. b < 256) (flat_map word_bytes ws)
unfolding word_bytes
word_bytes_fit [] h = All-nil (λ b. b < 256)
word_bytes_fit (w ∷ ws) h =
    let small = h.0 in
    All-append (λ b. b < 256) (word_bytes w) (flat_map word_bytes ws)
    (All-cons (λ b. b < 256) (w % 256) (w / 256 ∷ []) (omega arith)
    (All-cons (λ b. b < 256) (w / 256) [] (omega (arith, small)) (All-nil (λ b. b < 256))))
    (word_bytes_fit ws h.1)

-- The points of the bytes of points are those points.
pub words_stay : (ws : List ℕ) → AreWords ws → channel_words Signed16 1 0 (flat_map word_bytes ws) ≡ ws
words_stay ws h =
    sixteen_bits_stay (flat_map word_bytes ws) (word_bytes_fit ws h)
    (let even = length-word_bytes ws in omega (arith, even))
    ∙ words_of_bytes ws

-- ---- points fit into 16 bits

pub point_fits : (sign : Bool) (n : ℕ) → cast_unsigned w16 (with_sign sign (min n (most 16 sign))) < 2 ^ 16
point_fits false n = omega arith
point_fits true n = negative (min n 32768) (omega arith)
  where
    negative : (n : ℕ) → n ≤ 32768 → cast_unsigned w16 (neg_ℤ (pos n)) < 2 ^ 16
    negative zero h = omega arith
    negative (suc n) h = omega (arith, h)

frames_fit : (e : SampleEncoding) (size channel n : ℕ) (bytes : List ℕ)
    → AreWords (first_records size (λ frame. point_word e (sample_in (size_of e) channel frame)) n bytes)
frames_fit e size channel zero bytes = tt
frames_fit e size channel (suc n) bytes =
    let f = fraction e (sample_in (size_of e) channel (take size bytes)) in
    (point_fits f.is_negative (nearest f.numerator f.denominator), frames_fit e size channel n (drop size bytes))

pub words_fit : (e : SampleEncoding) (channels channel : ℕ) (bytes : List ℕ)
    → AreWords (channel_words e channels channel bytes)
words_fit e channels channel bytes =
    frames_fit e (channels * size_of e) channel (length bytes / (channels * size_of e)) bytes

-- ---- frame after frame

module _ (encoding : SampleEncoding) (channels channel : ℕ) where
  abbrev F : ℕ
  F = channels * size_of encoding

  abbrev bytes_of : List ℕ → List ℕ
  bytes_of bytes = flat_map word_bytes (channel_words encoding channels channel bytes)

  abbrev word_in : List ℕ → ℕ
  word_in frame = point_word encoding (sample_in (size_of encoding) channel frame)

  pub no_frame : (bytes : List ℕ) → length bytes < F → bytes_of bytes ≡ []
  no_frame bytes h = ap (flat_map word_bytes) (records-short F word_in bytes h)

  -- the points so far and the first of the rest, followed by all others
  pub next_frame : (points bytes : List ℕ) → 0 < F → F ≤ length bytes
      → (points ++ word_bytes (word_in (take F bytes)))
      ++ bytes_of (drop F bytes)
      ≡ points ++ bytes_of bytes
  next_frame points bytes some h =
      append_assoc points (word_bytes (word_in (take F bytes))) (bytes_of (drop F bytes))
      ∙ ap (λ (ws : List ℕ). points ++ flat_map word_bytes ws) (sym (records-next F word_in bytes some h))

  -- the same by what the calls of an iteration give
  pub after_frame : (size : ℕ) → size ≡ size_of encoding → (points rest new others : List ℕ) (word : ℕ)
      → 0 < channels * size → channels * size ≤ length rest
      → others ≡ drop (channels * size) rest
      → word ≡ point_word encoding (take size (drop (channel * size) (take (channels * size) rest)))
      → new ≡ points ++ word_bytes word → new ++ bytes_of others ≡ points ++ bytes_of rest
  after_frame size is points rest new others word some fits left first whole =
      let word_is : word ≡ word_in (take F rest) =
      first ∙ (λ i. point_word encoding (take (is i) (drop (channel * is i) (take (channels * is i) rest)))) in
      let others_are : others ≡ drop F rest = left ∙ ap (λ (n : ℕ). drop (channels * n) rest) is in
      (λ i. (whole ∙ ap (λ (w : ℕ). points ++ word_bytes w) word_is) i ++ bytes_of (others_are i))
      ∙ next_frame points rest (rw is at some) (rw is at fits)

-- One frame less is left.
pub fewer_frames : (size : ℕ) (bytes : List ℕ) → 0 < size → size ≤ length bytes
    → suc (length (drop size bytes) / size) ≡ length bytes / size
fewer_frames size bytes some h =
    let others : length (drop size bytes) / size ≡ (length bytes - size) / size =
    ap (λ (n : ℕ). n / size) (length-drop size bytes) in
    omega (arith, others, div-eq-sub-div some h)
