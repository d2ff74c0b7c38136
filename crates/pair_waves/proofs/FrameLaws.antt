-- Frames, run by run and one by one.
use Rattle.std.proofs.Common.{◌≡◌, ◌<◌, ◌≤◌, ◌+◌, ◌-◌, ◌*◌, ◌/◌, ◌%◌, ℕ, zero, suc, List, [], ◌∷◌, ◌++◌, length, take}
use Rattle.std.proofs.Common.{drop, get_or, Fits, w8, refl, ap, ◌∙◌, sym, arith}
use Rattle.std.proofs.lemmas.List.{append_assoc, drop_more, drop-drop, drop-take, take-take, length-take}
use Rattle.std.proofs.lemmas.List.{length-drop}
use Rattle.std.proofs.Math.ListN.{drop_of_length-le}
use Rattle.sample_view.specs.Words.{words, word_bytes}
use Rattle.sample_view.specs.Runs.{IsRunAround}
use Rattle.sample_view.proofs.WordLaws.{length-words, words-take, words-drop, words-empty, get_or-words}
use Rattle.pair_waves.specs.Frames.{frame_bytes, interleaved}

-- ---- frames

-- the first n frames, then the others
interleaved-split : (n : ℕ) (left right : List ℕ)
    → interleaved left right ≡ interleaved (take n left) (take n right) ++ interleaved (drop n left) (drop n right)
unfolding word_bytes
interleaved-split zero left right = refl
interleaved-split (suc n) [] right = no_frame (drop (suc n) right)
  where
    no_frame : (right : List ℕ) → [] ≡ interleaved [] right
    no_frame right = refl
interleaved-split (suc n) (l ∷ left) [] = no_frame (drop n left)
  where
    no_frame : (left : List ℕ) → [] ≡ interleaved left []
    no_frame [] = refl
    no_frame (l ∷ left) = refl
interleaved-split (suc n) (l ∷ left) (r ∷ right) =
    ap (λ (bytes : List ℕ). frame_bytes (l, r) ++ bytes) (interleaved-split n left right)

-- the frame at an index, then the others
interleaved-next : (left right : List ℕ) (i : ℕ) → i < length left → i < length right
    → interleaved (drop i left) (drop i right)
    ≡ frame_bytes (get_or left i 0, get_or right i 0) ++ interleaved (drop (i + 1) left) (drop (i + 1) right)
interleaved-next left right i l r =
    λ k. interleaved (drop_more left i 0 l k) (drop_more right i 0 r k)

-- after the last frame there are none
pub no_frames : (left right : List ℕ) (i : ℕ) → length left ≤ i → interleaved (drop i left) (drop i right) ≡ []
no_frames left right i h = ap (λ (rest : List ℕ). interleaved rest (drop i right)) (drop_of_length-le left h)

-- ---- the bytes of a block

word_bytes-at : (bytes : List ℕ) (i : ℕ) → ((k : ℕ) → Fits w8 (get_or bytes k 0)) → 2 * i + 1 < length bytes
    → word_bytes (get_or (words bytes) i 0) ≡ get_or bytes (2 * i) 0 ∷ get_or bytes (2 * i + 1) 0 ∷ []
unfolding word_bytes
word_bytes-at bytes i fits inside =
    let e = get_or-words (2 * i) i bytes refl inside in
    let small : get_or bytes (2 * i) 0 < 256 = omega (arith, fits (2 * i)) in
    let low : get_or (words bytes) i 0 % 256 ≡ get_or bytes (2 * i) 0 = omega (arith, e, small) in
    let high : get_or (words bytes) i 0 / 256 ≡ get_or bytes (2 * i + 1) 0 = omega (arith, e, small) in
    λ k. low k ∷ high k ∷ []

four_more : (items : List ℕ) (a b c d : ℕ)
    → (((items ++ a ∷ []) ++ b ∷ []) ++ c ∷ []) ++ d ∷ [] ≡ items ++ (a ∷ b ∷ c ∷ d ∷ [])
four_more [] a b c d = refl
four_more (x ∷ items) a b c d = ap (λ (xs : List ℕ). x ∷ xs) (four_more items a b c d)

-- After the bytes of a frame are pushed, the frames after it remain.
pub frame_pushed : (left right : List ℕ) (i : ℕ) (items one two three four whole : List ℕ)
    → ((k : ℕ) → Fits w8 (get_or left k 0)) → ((k : ℕ) → Fits w8 (get_or right k 0)) → length right ≡ length left
    → i < length left / 2
    → one ≡ items ++ get_or left (2 * i) 0 ∷ [] → two ≡ one ++ get_or left (2 * i + 1) 0 ∷ []
    → three ≡ two ++ get_or right (2 * i) 0 ∷ [] → four ≡ three ++ get_or right (2 * i + 1) 0 ∷ []
    → items ++ interleaved (drop i (words left)) (drop i (words right)) ≡ whole
    → four ++ interleaved (drop (i + 1) (words left)) (drop (i + 1) (words right)) ≡ whole
frame_pushed left right i items one two three four whole l r same inside e1 e2 e3 e4 e =
    let others = interleaved (drop (i + 1) (words left)) (drop (i + 1) (words right)) in
    let frame = frame_bytes (get_or (words left) i 0, get_or (words right) i 0) in
    let left_bytes = word_bytes-at left i l (omega (arith, inside)) in
    let right_bytes = word_bytes-at right i r (omega (arith, inside, same)) in
    let bytes : (get_or left (2 * i) 0 ∷ get_or left (2 * i + 1) 0 ∷ get_or right (2 * i) 0 ∷ get_or right (2 * i + 1) 0
    ∷ [])
    ≡ frame =
    λ k. sym left_bytes k ++ sym right_bytes k in
    let pushed : four ≡ items ++ frame =
    e4 ∙ ap (λ (xs : List ℕ). xs ++ get_or right (2 * i + 1) 0 ∷ [])
    (e3 ∙ ap (λ (xs : List ℕ). xs ++ get_or right (2 * i) 0 ∷ [])
    (e2 ∙ ap (λ (xs : List ℕ). xs ++ get_or left (2 * i + 1) 0 ∷ []) e1))
    ∙ four_more items (get_or left (2 * i) 0) (get_or left (2 * i + 1) 0) (get_or right (2 * i) 0)
    (get_or right (2 * i + 1) 0)
    ∙ ap (λ (xs : List ℕ). items ++ xs) bytes in
    let next = interleaved-next (words left) (words right) i (omega (arith, inside, length-words left))
    (omega (arith, inside, same, length-words right)) in
    ap (λ (xs : List ℕ). xs ++ others) pushed ∙ append_assoc items frame others
    ∙ ap (λ (xs : List ℕ). items ++ xs) (sym next) ∙ e

-- ---- runs

-- after the last byte of a side there is no frame
pub no_bytes : (left right : List ℕ) → length left ≡ 0 → interleaved (words left) (words right) ≡ []
no_bytes left right e = ap (λ (ws : List ℕ). interleaved ws (words right)) (words-empty left e)

-- bytes of each side, then the others
pub interleaved-bytes : (left right : List ℕ) (size : ℕ) → size % 2 ≡ 0
    → interleaved (words left) (words right)
    ≡ interleaved (words (take size left)) (words (take size right))
    ++ interleaved (words (drop size left)) (words (drop size right))
interleaved-bytes left right size even =
    let twice : size ≡ 2 * (size / 2) = omega (arith, even) in
    interleaved-split (size / 2) (words left) (words right)
    ∙ (λ k. interleaved (sym (words-take size (size / 2) left twice) k) (sym (words-take size (size / 2) right twice) k)
    ++ interleaved (sym (words-drop size (size / 2) left twice) k) (sym (words-drop size (size / 2) right twice) k))

-- a part of a run
part_of_run : (points run : List ℕ) (index size : ℕ) → words run ≡ take (length run / 2) (drop index points)
    → size % 2 ≡ 0 → size ≤ length run → words (take size run) ≡ take (size / 2) (drop index points)
part_of_run points run index size e even inside =
    words-take size (size / 2) run (omega (arith, even)) ∙ ap (take (size / 2)) e
    ∙ take-take (size / 2) (length run / 2) (drop index points) (omega (arith, inside))

-- the frames from an index on: those of a run of each side, then the others
pub interleaved-run : (left right left_run right_run : List ℕ) (index size : ℕ) → size % 2 ≡ 0
    → size ≤ length left_run → size ≤ length right_run
    → words left_run ≡ take (length left_run / 2) (drop index left)
    → words right_run ≡ take (length right_run / 2) (drop index right)
    → interleaved (drop index left) (drop index right)
    ≡ interleaved (words (take size left_run)) (words (take size right_run))
    ++ interleaved (drop (index + size / 2) left) (drop (index + size / 2) right)
interleaved-run left right left_run right_run index size even l r le re =
    interleaved-split (size / 2) (drop index left) (drop index right)
    ∙ (λ k. interleaved (sym (part_of_run left left_run index size le even l) k)
    (sym (part_of_run right right_run index size re even r) k)
    ++ interleaved (drop-drop (size / 2) index left k) (drop-drop (size / 2) index right k))

-- ---- the run from a point on

module _ (points bytes : List ℕ) (index position : ℕ) (run : IsRunAround points index bytes position) where
  abbrev rest : List ℕ
  rest = drop (2 * position) bytes

  length-rest : length rest ≡ length bytes - 2 * position
  length-rest = length-drop (2 * position) bytes

  pub run_inside : index < length points → index + length rest / 2 ≤ length points
  run_inside inside =
      let begins = run.begins in
      let within = run.inside in
      let count = length-words bytes in
      let all = ap length run.run ∙ length-take (length (words bytes)) (drop (index - position) points) in
      let after = length-drop (index - position) points in
      let more = length-rest in
      omega (arith, begins, within, count, all, after, more, inside)

  pub run_points : words rest ≡ take (length rest / 2) (drop index points)
  run_points =
      let begins = run.begins in
      let within = run.inside in
      let count = length-words bytes in
      let more = length-rest in
      let n : length (words bytes) ≡ position + length rest / 2 = omega (arith, count, more, within) in
      let first : index - position + position ≡ index = omega (arith, begins) in
      words-drop (2 * position) position bytes refl ∙ ap (drop position) run.run
      ∙ ap (λ (k : ℕ). drop position (take k (drop (index - position) points))) n
      ∙ drop-take position (length rest / 2) (drop (index - position) points)
      ∙ ap (take (length rest / 2))
      (drop-drop position (index - position) points ∙ ap (λ (k : ℕ). drop k points) first)
