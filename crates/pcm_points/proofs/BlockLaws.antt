-- Blocks of samples, lane by lane and frame by frame.
use Rattle.std.proofs.Common.{◌≡◌, ◌≤◌, ◌<◌, ◌+◌, ◌-◌, ◌*◌, ◌/◌, ◌%◌, ◌^◌, ℕ, zero, suc, List, [], ◌∷◌, ◌++◌, map, Bool}
use Rattle.std.proofs.Common.{length, take, drop, get_or, replicate, true, false, cond, ltb, pos, neg_ℤ, refl, ap, sym}
use Rattle.std.proofs.Common.{◌∙◌, inl, inr, w16, w32, Fits, arith}
use Rattle.std.specs.Prelude.{min}
use Rattle.std.specs.Int.{cast_unsigned}
use Rattle.std.specs.List.{flat_map, range_with_len}
use Rattle.std.proofs.lemmas.Bool.{cases_lt, lt-ltb, le-ltb, ltb-true, ltb-false, false≢true}
use Rattle.std.proofs.lemmas.List.{append_assoc, length-drop, drop-drop, drop-take, get_or-drop, take_rest}
use Rattle.std.proofs.lemmas.Grind.{flat_map-append}
use Rattle.std.proofs.Math.Nat.{mul_comm, mul_assoc, mul-le-mul_right, suc-mul, add-mul, zero-mul, add-mul-div_left}
use Rattle.hydra_records.specs.Records.{first_records}
use Rattle.hydra_records.proofs.TableLaws.{records-next}
use Rattle.byteorder.specs.Endian.{little_number}
use lib.Lanes.{zip2, sel_l, top, Each1, number_l, digits_l}
use Rattle.sample_view.specs.Words.{word_bytes}
use Rattle.pcm_points.specs.declared.encoding.SampleEncoding.{SampleEncoding}
use Rattle.pcm_points.specs.declared.encoding.SampleEncoding.TheVariants.{Unsigned8, Signed16, Signed24, Signed32}
use Rattle.pcm_points.specs.declared.encoding.SampleEncoding.TheVariants.{Float32}
use Rattle.pcm_points.specs.Samples.{size_of, integer_fraction}
use Rattle.pcm_points.specs.Points.{nearest, point_of, point_word, sample_in, channel_words}
use Rattle.pcm_points.specs.Blocks.{is_integer, shift_of, bias_of, aligned, number_word, window_word}
use Rattle.pcm_points.proofs.NearestLaws.{nearest-higher}

-- ---- a lane

-- the word of a number in two's complement
abbrev plain_word : ℕ → ℕ
plain_word n = cast_unsigned w16 (point_of (integer_fraction 32 n))

-- the less of two numbers, as vectors compute it
abbrev least_of : ℕ → ℕ → ℕ
least_of a b = cond (top 31 (cond (ltb a b) (2 ^ 32 - 1) 0)) a b

least_is : (a b : ℕ) → least_of a b ≡ min a b
least_is a b = by_test (ltb a b) refl
  where
    by_test : (t : Bool) → ltb a b ≡ t → cond (top 31 (cond t (2 ^ 32 - 1) 0)) a b ≡ min a b
    by_test true e = let less = ltb-true a b e in omega (arith, less)
    by_test false e = let more = ltb-false a b e in omega (arith, more)

-- the greatest number that is rounded to a point
abbrev greatest : ℕ
greatest = 2 ^ 32 - 2 ^ 15 - 1

-- the point of a number x from the least point on, where the less of x and the greatest number is m
abbrev offset_of : ℕ → ℕ → ℕ
offset_of x m = ((m + 32767) % 2 ^ 32 + x / 2 ^ 31) % 2 ^ 32 / 2 ^ 16

abbrev word_of : ℕ → ℕ
word_of x = (offset_of x (min x greatest) + 32768) % 2 ^ 16

-- a number that isn't negative
up_word : (x : ℕ) → x < 2 ^ 31
    → cast_unsigned w16 (pos (min (nearest (2 ^ 16 * x) (2 ^ 32)) 32767)) ≡ min ((x + 32768) / 65536) 32767
up_word x h = omega (arith, h)

-- the magnitude of a negative one
down_word : (m : ℕ) → 0 < m → m ≤ 2 ^ 31
    → cast_unsigned w16 (neg_ℤ (pos (min (nearest (2 ^ 16 * m) (2 ^ 32)) 32768)))
    ≡ (65536 - (m + 32768) / 65536) % 65536
down_word m some h = word (min (nearest (2 ^ 16 * m) (2 ^ 32)) 32768) (omega (arith, h))
  where
    word : (q : ℕ) → q ≡ (m + 32768) / 65536 → cast_unsigned w16 (neg_ℤ (pos q)) ≡ (65536 - (m + 32768) / 65536) % 65536
    word zero e = omega (arith, e)
    word (suc q) e = omega (arith, e, h)

lane : (x : ℕ) → x < 2 ^ 32 → (offset_of x (least_of x greatest) + 32768) % 2 ^ 16 ≡ number_word x
lane x fits =
    ap (λ (m : ℕ). (offset_of x m + 32768) % 2 ^ 16) (least_is x greatest)
    ∙ by_half ((x + 2 ^ 31) % 2 ^ 32) refl
  where
    by_half : (n : ℕ) → (x + 2 ^ 31) % 2 ^ 32 ≡ n → word_of x ≡ plain_word n
    by_half n e = elim (cases_lt (2 * n) (2 ^ 32)) as (λ _. word_of x ≡ plain_word n) [
      | inl low ↦ (
          let up : word_of x ≡ min ((n + 32768) / 65536) 32767 = omega (arith, fits, e, low) in
          rw (lt-ltb (2 * n) (2 ^ 32) low) (up ∙ sym (up_word n (omega (arith, low)))))
      | inr high ↦ (
          let down : word_of x ≡ (65536 - (2 ^ 32 - n + 32768) / 65536) % 65536 =
          omega (arith, fits, e, high) in
          rw (le-ltb (2 * n) (2 ^ 32) high)
          (down ∙ sym (down_word (2 ^ 32 - n) (omega (arith, fits, e)) (omega (arith, high)))))
    ]

-- ---- all lanes

pub aligned_lanes : (shift bias n : ℕ) (xs : List ℕ) → length xs ≡ n
    → zip2 (λ a b. (a + b) % 2 ^ 32) (zip2 (λ a b. a * 2 ^ b % 2 ^ 32) xs (replicate n shift)) (replicate n bias)
    ≡ map (aligned shift bias) xs
aligned_lanes shift bias zero [] e = refl
aligned_lanes shift bias zero (x ∷ xs) e = absurd (omega (arith, e))
aligned_lanes shift bias (suc n) [] e = absurd (omega (arith, e))
aligned_lanes shift bias (suc n) (x ∷ xs) e =
    λ i. aligned shift bias x ∷ aligned_lanes shift bias n xs (omega (arith, e)) i

abbrev shifted : ℕ → List ℕ → List ℕ
shifted n xs =
    let bound = replicate n greatest in
    let is_below = map (top 31) (zip2 (λ a b. cond (ltb a b) (2 ^ 32 - 1) 0) xs bound) in
    let clipped = sel_l is_below xs bound in
    let halves = zip2 (λ a b. (a + b) % 2 ^ 32) clipped (replicate n 32767) in
    let is_above = zip2 (λ a b. a / 2 ^ b) xs (replicate n 31) in
    zip2 (λ a b. a / 2 ^ b) (zip2 (λ a b. (a + b) % 2 ^ 32) halves is_above) (replicate n 16)

pub shifted_fit : (n : ℕ) (xs : List ℕ) → length xs ≡ n → Each1 (Fits w16) (shifted n xs)
shifted_fit zero [] e = tt
shifted_fit zero (x ∷ xs) e = absurd (omega (arith, e))
shifted_fit (suc n) [] e = absurd (omega (arith, e))
shifted_fit (suc n) (x ∷ xs) e =
    (bound ((least_of x greatest + 32767) % 2 ^ 32 + x / 2 ^ 31), shifted_fit n xs (omega (arith, e)))
  where
    bound : (a : ℕ) → Fits w16 (a % 2 ^ 32 / 2 ^ 16)
    bound a = record { fits = omega arith }

pub word_lanes : (n : ℕ) (xs : List ℕ) → length xs ≡ n → Each1 (Fits w32) xs
    → zip2 (λ a b. (a + b) % 2 ^ 16) (map (λ a. a) (shifted n xs)) (replicate n 32768) ≡ map number_word xs
word_lanes zero [] e h = refl
word_lanes zero (x ∷ xs) e h = absurd (omega (arith, e))
word_lanes (suc n) [] e h = absurd (omega (arith, e))
word_lanes (suc n) (x ∷ xs) e h = λ i. lane x h.0.fits i ∷ word_lanes n xs (omega (arith, e)) h.1 i

-- ---- the bytes of words

next_bytes : (w r : ℕ) → w < 2 ^ 16
    → ((w + 2 ^ 16 * r) % 2 ^ 8 ≡ w % 256)
    × ((w + 2 ^ 16 * r) / 2 ^ 8 % 2 ^ 8 ≡ w / 256)
    × ((w + 2 ^ 16 * r) / 2 ^ 8 / 2 ^ 8 ≡ r)
next_bytes w r h = (omega (arith, h), omega (arith, h), omega (arith, h))

abbrev twice : ℕ → ℕ
twice zero = zero
twice (suc n) = suc (suc (twice n))

pub bytes_of_lanes : (n : ℕ) (ws : List ℕ) → length ws ≡ n → Each1 (Fits w16) ws
    → digits_l (2 ^ 8) (twice n) (number_l (2 ^ 16) ws) ≡ flat_map word_bytes ws
unfolding word_bytes
bytes_of_lanes zero [] e h = refl
bytes_of_lanes zero (w ∷ ws) e h = absurd (omega (arith, e))
bytes_of_lanes (suc n) [] e h = absurd (omega (arith, e))
bytes_of_lanes (suc n) (w ∷ ws) e h =
    let parts = next_bytes w (number_l (2 ^ 16) ws) h.0.fits in
    λ i. parts.0 i
    ∷ parts.1 i
    ∷ (ap (digits_l (2 ^ 8) (twice n)) parts.2 ∙ bytes_of_lanes n ws (omega (arith, e)) h.1) i

-- ---- a sample in a number of 32 bits

-- n of `width` bits, in units of which k fill it up to 32 bits
scaled : (width k n : ℕ) → 2 ^ width * k ≡ 2 ^ 32 → 0 < k → n < 2 ^ width
    → plain_word (n * k) ≡ cast_unsigned w16 (point_of (integer_fraction width n))
scaled width k n full some fits =
    elim (cases_lt (2 * n) (2 ^ width)) as
    (λ _. plain_word (n * k) ≡ cast_unsigned w16 (point_of (integer_fraction width n))) [
      | inl low ↦ (
          let more : suc (2 * n) * k ≤ 2 ^ width * k = mul-le-mul_right k low in
          let low32 : 2 * (n * k) < 2 ^ 32 = omega (arith, more, suc-mul (2 * n) k, mul_assoc 2 n k, full, some) in
          rw (lt-ltb (2 * n) (2 ^ width) low, lt-ltb (2 * (n * k)) (2 ^ 32) low32, higher n) refl)
      | inr high ↦ (
          let more : 2 ^ width * k ≤ 2 * n * k = mul-le-mul_right k high in
          let high32 : 2 ^ 32 ≤ 2 * (n * k) = omega (arith, more, mul_assoc 2 n k, full) in
          let sum : (2 ^ width - n) * k + n * k ≡ 2 ^ width * k =
          sym (add-mul (2 ^ width - n) n k) ∙ ap (λ (m : ℕ). m * k) {y = 2 ^ width} (omega (arith, fits)) in
          let rest : 2 ^ 32 - n * k ≡ (2 ^ width - n) * k = omega (arith, sum, full) in
          rw (le-ltb (2 * n) (2 ^ width) high, le-ltb (2 * (n * k)) (2 ^ 32) high32, rest, higher (2 ^ width - n)) refl)
    ]
  where
    higher : (m : ℕ) → nearest (2 ^ 16 * (m * k)) (2 ^ 32) ≡ nearest (2 ^ 16 * m) (2 ^ width)
    higher m =
        (λ i. nearest (sym (mul_assoc (2 ^ 16) m k) i) (sym full i))
        ∙ nearest-higher (2 ^ 16 * m) (2 ^ width) k some

-- by its four bytes
window : (e : SampleEncoding) → is_integer e ≡ true → (bytes : List ℕ) → ((k : ℕ) → get_or bytes k 0 < 256)
    → 4 ≤ length bytes → window_word e bytes ≡ point_word e (take (size_of e) bytes)
window e is [] small h = absurd (omega (arith, h))
window e is (a ∷ []) small h = absurd (omega (arith, h))
window e is (a ∷ b ∷ []) small h = absurd (omega (arith, h))
window e is (a ∷ b ∷ c ∷ []) small h = absurd (omega (arith, h))
window e is (a ∷ b ∷ c ∷ d ∷ rest) small h =
    words e is (small 0) (small 1) (small 2) (small 3)
  where
    words : (e : SampleEncoding) → is_integer e ≡ true → a < 256 → b < 256 → c < 256 → d < 256
        → window_word e (a ∷ b ∷ c ∷ d ∷ rest) ≡ point_word e (take (size_of e) (a ∷ b ∷ c ∷ d ∷ rest))
    words Unsigned8 is ha hb hc hd =
        let number : (aligned 24 0 (little_number 4 (a ∷ b ∷ c ∷ d ∷ rest)) + 2 ^ 31) % 2 ^ 32
        ≡ (a + 256 * 0 + 128) % 256 * 2 ^ 24 =
        omega (arith, ha, hb, hc, hd) in
        ap plain_word number
        ∙ scaled 8 (2 ^ 24) ((a + 256 * 0 + 128) % 256) (omega arith) (omega arith) (omega arith)
    words Signed16 is ha hb hc hd =
        let number : (aligned 16 (2 ^ 31) (little_number 4 (a ∷ b ∷ c ∷ d ∷ rest)) + 2 ^ 31) % 2 ^ 32
        ≡ (a + 256 * (b + 256 * 0)) * 2 ^ 16 =
        omega (arith, ha, hb, hc, hd) in
        ap plain_word number
        ∙ scaled 16 (2 ^ 16) (a + 256 * (b + 256 * 0)) (omega arith) (omega arith) (omega (arith, ha, hb))
    words Signed24 is ha hb hc hd =
        let number : (aligned 8 (2 ^ 31) (little_number 4 (a ∷ b ∷ c ∷ d ∷ rest)) + 2 ^ 31) % 2 ^ 32
        ≡ (a + 256 * (b + 256 * (c + 256 * 0))) * 2 ^ 8 =
        omega (arith, ha, hb, hc, hd) in
        ap plain_word number
        ∙ scaled 24 (2 ^ 8) (a + 256 * (b + 256 * (c + 256 * 0))) (omega arith) (omega arith)
        (omega (arith, ha, hb, hc))
    words Signed32 is ha hb hc hd =
        let number : (aligned 0 (2 ^ 31) (little_number 4 (a ∷ b ∷ c ∷ d ∷ rest)) + 2 ^ 31) % 2 ^ 32
        ≡ a + 256 * (b + 256 * (c + 256 * (d + 256 * 0))) =
        omega (arith, ha, hb, hc, hd) in
        ap plain_word number
    words Float32 is ha hb hc hd = absurd (false≢true is)

-- ---- a block

take_take : {X : Type 0} (n m : ℕ) (xs : List X) → n ≤ m → take n (take m xs) ≡ take n xs
take_take zero m xs h = refl
take_take (suc n) zero xs h = absurd (omega (arith, h))
take_take (suc n) (suc m) [] h = refl
take_take (suc n) (suc m) (x ∷ xs) h = λ i. x ∷ take_take n m xs (omega (arith, h)) i

module _ (e : SampleEncoding) (channels channel : ℕ) (is : is_integer e ≡ true) (below : channel < channels) where
  abbrev F : ℕ
  F = channels * size_of e

  abbrev from : ℕ
  from = channel * size_of e

  abbrev word_in : List ℕ → ℕ
  word_in frame = point_word e (sample_in (size_of e) channel frame)

  within : from + size_of e ≤ F
  within =
      let more : suc channel * size_of e ≤ channels * size_of e = mul-le-mul_right (size_of e) below in
      omega (arith, more, suc-mul channel (size_of e))

  first_word : (rest : List ℕ) → ((k : ℕ) → get_or rest k 0 < 256) → from + 4 ≤ length rest
      → window_word e (drop from rest) ≡ word_in (take F rest)
  first_word rest small h =
      let long : 4 ≤ length (drop from rest) = omega (arith, h, length-drop from rest) in
      let bytes : (k : ℕ) → get_or (drop from rest) k 0 < 256 =
      λ k. let at = get_or-drop from rest k 0 in let fits = small (from + k) in omega (arith, at, fits) in
      let others : from + (F - from) ≡ F = omega (arith, within) in
      let frame : drop from (take F rest) ≡ take (F - from) (drop from rest) =
      ap (λ (n : ℕ). drop from (take n rest)) (sym others) ∙ drop-take from (F - from) rest in
      window e is (drop from rest) bytes long
      ∙ ap (point_word e)
      (sym
      (ap (take (size_of e)) frame ∙ take_take (size_of e) (F - from) (drop from rest) (omega (arith, within))))

  pub block_words : (n a : ℕ) (rest : List ℕ) → ((k : ℕ) → get_or rest k 0 < 256) → (a + n) * F + 4 ≤ length rest
      → map (λ i. window_word e (drop (i * F) (drop from rest))) (range_with_len a n)
      ≡ first_records F word_in n (drop (a * F) rest)
  block_words zero a rest small h = refl
  block_words (suc n) a rest small h =
      let sum : (a + suc n) * F ≡ a * F + (n * F + F) = add-mul a (suc n) F ∙ ap (λ (m : ℕ). a * F + m) (suc-mul n F) in
      let long : from + 4 ≤ length (drop (a * F) rest) = omega (arith, h, sum, within, length-drop (a * F) rest) in
      let bytes : (k : ℕ) → get_or (drop (a * F) rest) k 0 < 256 =
      λ k. let at = get_or-drop (a * F) rest k 0 in let fits = small (a * F + k) in omega (arith, at, fits) in
      let order : drop (a * F) (drop from rest) ≡ drop from (drop (a * F) rest) =
      drop-drop (a * F) from rest
      ∙ ap (λ (m : ℕ). drop m rest) {y = a * F + from} (omega arith)
      ∙ sym (drop-drop from (a * F) rest) in
      let next : (a + 1) * F ≡ a * F + F = add-mul a 1 F ∙ ap (λ (m : ℕ). a * F + m) {y = F} (omega arith) in
      let others : drop ((a + 1) * F) rest ≡ drop F (drop (a * F) rest) =
      ap (λ (m : ℕ). drop m rest) next ∙ sym (drop-drop F (a * F) rest) in
      let count : (a + 1 + n) * F ≡ (a + suc n) * F = ap (λ (m : ℕ). m * F) {y = a + suc n} (omega arith) in
      λ i. (ap (window_word e) order ∙ first_word (drop (a * F) rest) bytes long) i
      ∷ (block_words n (a + 1) rest small (omega (arith, count, h))
      ∙ ap (first_records F word_in n) others) i

  -- the first n frames and the others
  split : (n : ℕ) (rest : List ℕ) → 0 < F → n * F ≤ length rest
      → channel_words e channels channel rest
      ≡ first_records F word_in n rest ++ channel_words e channels channel (drop (n * F) rest)
  split zero rest some h = ap (λ (m : ℕ). channel_words e channels channel (drop m rest)) (sym (zero-mul F))
  split (suc n) rest some h =
      let sum = suc-mul n F in
      let others : drop (n * F) (drop F rest) ≡ drop (suc n * F) rest =
      drop-drop (n * F) F rest ∙ ap (λ (m : ℕ). drop m rest) {y = suc n * F} (omega (arith, sum)) in
      records-next F word_in rest some (omega (arith, sum, h))
      ∙ (λ i. word_in (take F rest)
      ∷ (split n (drop F rest) some (omega (arith, sum, h, length-drop F rest))
      ∙ ap (λ bs. first_records F word_in n (drop F rest) ++ channel_words e channels channel bs) others) i)

  -- the points so far and those of eight frames, followed by all others
  pub next_block : (points new rest ws : List ℕ) → ((k : ℕ) → get_or rest k 0 < 256) → 0 < F
      → 8 * F + 4 ≤ length rest
      → ws ≡ map (λ i. window_word e (drop (i * F) (drop from rest))) (range_with_len 0 8)
      → new ≡ points ++ flat_map word_bytes ws
      → new ++ flat_map word_bytes (channel_words e channels channel (drop (8 * F) rest))
      ≡ points ++ flat_map word_bytes (channel_words e channels channel rest)
  next_block points new rest ws small some h words whole =
      let others = flat_map word_bytes (channel_words e channels channel (drop (8 * F) rest)) in
      let begins : drop (0 * F) rest ≡ rest = ap (λ (m : ℕ). drop m rest) (zero-mul F) in
      let first : ws ≡ first_records F word_in 8 rest =
      words ∙ block_words 8 0 rest small h ∙ ap (first_records F word_in 8) begins in
      ap (λ bs. bs ++ others) whole
      ∙ append_assoc points (flat_map word_bytes ws) others
      ∙ ap (λ bs. points ++ bs)
      (sym
      (ap (flat_map word_bytes) (split 8 rest some (omega (arith, h)))
      ∙ flat_map-append word_bytes (first_records F word_in 8 rest)
      (channel_words e channels channel (drop (8 * F) rest))
      ∙ ap (λ vs. flat_map word_bytes vs ++ others) (sym first)))

  -- the same by what the calls of an iteration give
  pub after_block : (size shift bias : ℕ) → size ≡ size_of e → shift ≡ shift_of e → bias ≡ bias_of e
      → (points new rest others windows numbers ws : List ℕ) → ((k : ℕ) → get_or rest k 0 < 256)
      → 0 < channels * size → 8 * (channels * size) + 4 ≤ length rest
      → others ≡ drop (8 * (channels * size)) rest
      → windows
      ≡ map
      (λ i. little_number 4
      (drop (i * (channels * size)) (take (length rest - channel * size) (drop (channel * size) rest))))
      (range_with_len 0 8)
      → numbers ≡ map (aligned shift bias) windows → ws ≡ map number_word numbers
      → new ≡ points ++ flat_map word_bytes ws
      → new ++ flat_map word_bytes (channel_words e channels channel others)
      ≡ points ++ flat_map word_bytes (channel_words e channels channel rest)
  after_block size shift bias is_size is_shift is_bias points new rest others windows numbers ws small some h left
      read aligned_are words whole =
      let begins : take (length rest - channel * size) (drop (channel * size) rest) ≡ drop from rest =
      take_rest rest (channel * size) ∙ ap (λ (n : ℕ). drop (channel * n) rest) is_size in
      let all : ws ≡ map (λ i. window_word e (drop (i * F) (drop from rest))) (range_with_len 0 8) =
      words
      ∙ ap (map number_word) (aligned_are ∙ ap (map (aligned shift bias)) read)
      ∙ (λ i. map number_word
      (map (aligned (is_shift i) (is_bias i))
      (map (λ k. little_number 4 (drop (k * (channels * is_size i)) (begins i))) (range_with_len 0 8)))) in
      let others_are : others ≡ drop (8 * F) rest = left ∙ ap (λ (n : ℕ). drop (8 * (channels * n)) rest) is_size in
      ap (λ bs. new ++ flat_map word_bytes (channel_words e channels channel bs)) others_are
      ∙ next_block points new rest ws small (rw is_size at some) (rw is_size at h) all whole

-- Eight frames less are left.
pub fewer_blocks : (size : ℕ) (bytes : List ℕ) → 0 < size → 8 * size ≤ length bytes
    → length (drop (8 * size) bytes) / size + 8 ≡ length bytes / size
fewer_blocks size bytes some h =
    let sum : length bytes ≡ length (drop (8 * size) bytes) + size * 8 =
    omega (arith, length-drop (8 * size) bytes, h, mul_comm size 8) in
    sym (ap (λ (n : ℕ). n / size) sum ∙ add-mul-div_left (length (drop (8 * size) bytes)) 8 some)
