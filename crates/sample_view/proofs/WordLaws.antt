-- 16-bit numbers and their little-endian bytes.
use Rattle.std.proofs.Common.{◌≡◌, ℕ, zero, suc, ◌+◌, ◌*◌, ◌/◌, ◌%◌, ◌<◌, List, [], ◌∷◌, ◌++◌, length, get_or, take}
use Rattle.std.proofs.Common.{drop, refl, ap, arith}
use Rattle.std.specs.Prelude.{All}
use Rattle.std.specs.List.{flat_map}
use native.Mathlib.Numerals.{unary_clauses}
use Rattle.sample_view.specs.Words.{words, word_bytes, AreWords}

-- Two bytes make a number.
pub length-words : (xs : List ℕ) → length (words xs) ≡ length xs / 2
unfolding words
length-words [] = refl
length-words (low ∷ []) = refl
length-words (low ∷ high ∷ rest) = let e = length-words rest in omega arith

-- A prefix of whole numbers.
pub words-take : (k n : ℕ) (xs : List ℕ) → k ≡ 2 * n → words (take k xs) ≡ take n (words xs)
unfolding words
words-take zero zero xs e = refl
words-take zero (suc n) xs e = absurd (omega arith)
words-take (suc zero) n xs e = absurd (omega arith)
words-take (suc (suc k)) zero xs e = absurd (omega arith)
words-take (suc (suc k)) (suc n) [] e = refl
words-take (suc (suc k)) (suc n) (low ∷ []) e = refl
words-take (suc (suc k)) (suc n) (low ∷ high ∷ rest) e =
    let h : k ≡ 2 * n = omega arith in ap (λ ws. (low + 256 * high) ∷ ws) (words-take k n rest h)

-- The numbers after a prefix of whole ones.
pub words-drop : (k n : ℕ) (xs : List ℕ) → k ≡ 2 * n → words (drop k xs) ≡ drop n (words xs)
unfolding words
words-drop zero zero xs e = refl
words-drop zero (suc n) xs e = absurd (omega arith)
words-drop (suc zero) n xs e = absurd (omega arith)
words-drop (suc (suc k)) zero xs e = absurd (omega arith)
words-drop (suc (suc k)) (suc n) [] e = refl
words-drop (suc (suc k)) (suc n) (low ∷ []) e = refl
words-drop (suc (suc k)) (suc n) (low ∷ high ∷ rest) e =
    let h : k ≡ 2 * n = omega arith in words-drop k n rest h

-- A number from its two bytes.
pub get_or-words : (k i : ℕ) (xs : List ℕ) → k ≡ 2 * i → k + 1 < length xs
    → get_or (words xs) i 0 ≡ get_or xs k 0 + 256 * get_or xs (k + 1) 0
unfolding words
get_or-words k i [] e h = absurd (omega arith)
get_or-words k i (low ∷ []) e h = absurd (omega arith)
get_or-words zero zero (low ∷ high ∷ rest) e h = refl
get_or-words zero (suc i) (low ∷ high ∷ rest) e h = absurd (omega arith)
get_or-words (suc zero) i (low ∷ high ∷ rest) e h = absurd (omega arith)
get_or-words (suc (suc k)) zero (low ∷ high ∷ rest) e h = absurd (omega arith)
get_or-words (suc (suc k)) (suc i) (low ∷ high ∷ rest) e h =
    let e' : k ≡ 2 * i = omega arith in
    let h' : k + 1 < length rest = omega arith in
    simp unary_clauses (simp unary_clauses at (get_or-words k i rest e' h'))

-- Bytes decoded and encoded again.
pub bytes_of_words : (xs : List ℕ) → All (λ b. b < 256) xs → length xs % 2 ≡ 0 → flat_map word_bytes (words xs) ≡ xs
unfolding words word_bytes
bytes_of_words [] a e = refl
bytes_of_words (low ∷ []) a e = absurd (omega arith)
bytes_of_words (low ∷ high ∷ rest) a e =
    let e' : length rest % 2 ≡ 0 = omega arith in
    let small : All (λ b. b < 256) rest = λ j d h. a (suc (suc j)) d (omega arith) in
    let low_fits : low < 256 = a 0 0 (omega arith) in
    let ih = bytes_of_words rest small e' in
    let l : (low + 256 * high) % 256 ≡ low = omega arith in
    let h : (low + 256 * high) / 256 ≡ high = omega arith in
    rw (l, h) (ap (λ t. low ∷ high ∷ t) ih)

-- No bytes make no number.
pub words-empty : (xs : List ℕ) → length xs ≡ 0 → words xs ≡ []
unfolding words
words-empty [] e = refl
words-empty (x ∷ xs) e = absurd (omega arith)

-- Numbers encoded and decoded again.
pub words_of_bytes : (ws : List ℕ) → words (flat_map word_bytes ws) ≡ ws
unfolding words word_bytes
words_of_bytes [] = refl
words_of_bytes (w ∷ ws) =
    let e : w % 256 + 256 * (w / 256) ≡ w = omega arith in
    rw e (ap (λ t. w ∷ t) (words_of_bytes ws))

-- Each number has two bytes.
pub length-word_bytes : (ws : List ℕ) → length (flat_map word_bytes ws) ≡ 2 * length ws
unfolding word_bytes
length-word_bytes [] = refl
length-word_bytes (w ∷ ws) = let e = length-word_bytes ws in omega arith

-- Decoded numbers fit into 16 bits.
pub AreWords-words : (xs : List ℕ) → All (λ b. b < 256) xs → AreWords (words xs)
unfolding words
AreWords-words [] a = tt
AreWords-words (low ∷ []) a = tt
AreWords-words (low ∷ high ∷ rest) a =
    let low_fits : low < 256 = a 0 0 (omega arith) in
    let high_fits : high < 256 = a 1 0 (omega arith) in
    (omega arith, AreWords-words rest (λ j d h. a (suc (suc j)) d (omega arith)))

-- The numbers of two lists.
pub AreWords-append : (ws vs : List ℕ) → AreWords ws → AreWords vs → AreWords (ws ++ vs)
AreWords-append [] vs a b = b
AreWords-append (w ∷ ws) vs a b = (a.0, AreWords-append ws vs a.1 b)

-- The first n numbers.
pub AreWords-take : (n : ℕ) (ws : List ℕ) → AreWords ws → AreWords (take n ws)
AreWords-take zero ws a = tt
AreWords-take (suc n) [] a = tt
AreWords-take (suc n) (w ∷ ws) a = (a.0, AreWords-take n ws a.1)

-- The numbers after the first n.
pub AreWords-drop : (n : ℕ) (ws : List ℕ) → AreWords ws → AreWords (drop n ws)
AreWords-drop zero ws a = a
AreWords-drop (suc n) [] a = tt
AreWords-drop (suc n) (w ∷ ws) a = AreWords-drop n ws a.1
