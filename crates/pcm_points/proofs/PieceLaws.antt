-- The points of frames, piece after piece, written over the frames.
use Rattle.std.proofs.Common.{◌≡◌, ◌≤◌, ◌<◌, ◌+◌, ◌-◌, ◌*◌, ◌/◌, ◌⊎◌, ℕ, zero, suc, List, [], ◌∷◌, ◌++◌, length, take, drop}
use Rattle.std.proofs.Common.{refl, ap, sym, ◌∙◌, inl, inr, arith, length-take, length-append, append-nil}
use Rattle.std.specs.Prelude.{min}
use Rattle.std.specs.List.{flat_map}
use Rattle.std.proofs.lemmas.Bool.{cases_lt}
use Rattle.std.proofs.lemmas.List.{append_assoc, length-drop, drop-drop, drop-take, take-take, take_all, drop_all, take-append-le}
use Rattle.std.proofs.lemmas.Grind.{flat_map-append}
use Rattle.std.proofs.lemmas.Slice.{drop-append-drop}
use Rattle.std.proofs.Math.Nat.{zero-mul, suc-mul, mul-le-mul_left, div-mul-le_self}
use Rattle.hydra_records.proofs.TableLaws.{records-short, records-next, length-records}
use Rattle.sample_view.specs.Words.{word_bytes}
use Rattle.sample_view.proofs.WordLaws.{length-word_bytes}
use Rattle.pcm_points.specs.declared.encoding.SampleEncoding.{SampleEncoding}
use Rattle.pcm_points.specs.Samples.{size_of}
use Rattle.pcm_points.specs.Points.{point_word, sample_in, channel_words}

module _ (e : SampleEncoding) (channels channel : ℕ) where
  abbrev F : ℕ
  F = channels * size_of e

  abbrev word_in : List ℕ → ℕ
  word_in frame = point_word e (sample_in (size_of e) channel frame)

  abbrev words_of : List ℕ → List ℕ
  words_of bytes = channel_words e channels channel bytes

  abbrev bytes_of : List ℕ → List ℕ
  bytes_of bytes = flat_map word_bytes (words_of bytes)

  -- the first n frames and the others
  frames : (n : ℕ) (bytes : List ℕ) → 0 < F → n * F ≤ length bytes
      → words_of (take (n * F) bytes) ++ words_of (drop (n * F) bytes) ≡ words_of bytes
  frames zero bytes some h =
      rw (zero-mul F) (ap (λ (ws : List ℕ). ws ++ words_of bytes) (records-short F word_in [] some))
  frames (suc n) bytes some h =
      let sum : suc n * F ≡ F + n * F = omega (arith, suc-mul n F) in
      let long : F ≤ length (take (F + n * F) bytes) = omega (arith, sum, h, length-take (F + n * F) bytes) in
      let first : take F (take (F + n * F) bytes) ≡ take F bytes = take-take F (F + n * F) bytes (omega arith) in
      let front : words_of (take (F + n * F) bytes) ≡ word_in (take F bytes) ∷ words_of (take (n * F) (drop F bytes)) =
      records-next F word_in (take (F + n * F) bytes) some long
      ∙ (λ i. word_in (first i) ∷ words_of (drop-take F (n * F) bytes i)) in
      let back : drop (F + n * F) bytes ≡ drop (n * F) (drop F bytes) =
      sym (drop-drop (n * F) F bytes) in
      ap (λ (m : ℕ). words_of (take m bytes) ++ words_of (drop m bytes)) sum
      ∙ (λ i. front i ++ words_of (back i))
      ∙ ap (λ (ws : List ℕ). word_in (take F bytes) ∷ ws)
      (frames n (drop F bytes) some (omega (arith, sum, h, length-drop F bytes)))
      ∙ sym (records-next F word_in bytes some (omega (arith, sum, h)))

  -- a piece of whole frames and the bytes after it, or all bytes
  piece : (n k : ℕ) (bytes : List ℕ) → 0 < F → k ≡ min (length bytes) (n * F)
      → bytes_of (take k bytes) ++ bytes_of (drop k bytes) ≡ bytes_of bytes
  piece n k bytes some is = elim (cases_lt (length bytes) (n * F)) [
    | inl few ↦ (
        let all : length bytes ≤ k = omega (arith, is, few) in
        (λ i. bytes_of (take_all k bytes all i) ++ bytes_of (drop_all k bytes all i))
        ∙ ap (λ (ws : List ℕ). bytes_of bytes ++ flat_map word_bytes ws) (records-short F word_in [] some)
        ∙ append-nil (bytes_of bytes))
    | inr more ↦ (
        let whole : k ≡ n * F = omega (arith, is, more) in
        ap (λ (m : ℕ). bytes_of (take m bytes) ++ bytes_of (drop m bytes)) whole
        ∙ sym (flat_map-append word_bytes (words_of (take (n * F) bytes)) (words_of (drop (n * F) bytes)))
        ∙ ap (flat_map word_bytes) (frames n bytes some more))
  ]

  -- a point has no more bytes than its frame
  points_fit : (bytes : List ℕ) → 2 ≤ F → length (bytes_of bytes) ≤ length bytes
  points_fit bytes room =
      let n = length bytes / F in
      let frames : n * 2 ≤ n * F = mul-le-mul_left n room in
      omega (
        arith,
        length-word_bytes (words_of bytes),
        length-records F word_in bytes,
        frames,
        div-mul-le_self (length bytes) F,
      )

  -- what a piece does: the bytes so far, the bytes of its points, and the bytes after them
  pub record Written (old new : List ℕ) (read written end count : ℕ) : Type 0 where
    pub all : take (written + count) new ++ bytes_of (drop end new) ≡ take written old ++ bytes_of (drop read old)
    pub behind : written + count ≤ end
    pub size : length new ≡ length old
    pub within : end ≤ length old

  -- a piece of the rest, by what the calls of an iteration give
  module _ (size : ℕ) (is : size ≡ size_of e) (old points : List ℕ) (n read end : ℕ) (room : 2 ≤ channels * size)
      (within : read ≤ length old) (ends : end ≡ read + min (n * (channels * size)) (length old - read))
      (converted : points ≡ bytes_of (take (end - read) (drop read old))) where
    two : 2 ≤ F
    two = rw is at room

    part : end - read ≡ min (length (drop read old)) (n * F)
    part =
        let exact : n * (channels * size) ≡ n * F = ap (λ (s : ℕ). n * (channels * s)) is in
        omega (arith, ends, exact, within, length-drop read old)

    more : read ≤ end
    more = omega (arith, ends)

    long : end ≤ length old
    long = omega (arith, ends, within)

    -- they fit before the end of the piece
    pub fits : length points ≤ end - read
    fits =
        omega (
          arith,
          ap length converted,
          points_fit (take (end - read) (drop read old)) two,
          length-take (end - read) (drop read old),
        )

    pub after_piece : (new : List ℕ) (written : ℕ) → written ≤ read
        → new ≡ take written old ++ points ++ drop (written + length points) old
        → Written old new read written end (length points)
    after_piece new written behind now =
        let rest = drop read old in
        let count = length points in
        let front = take written old ++ points in
        let front_len : length front ≡ written + count =
        omega (arith, length-append (take written old) points, length-take written old, behind, within) in
        let begins : take (written + count) new ≡ front =
        ap (take (written + count)) now
        ∙ take-append-le (written + count) front (drop (written + count) old) (omega (arith, front_len))
        ∙ take_all (written + count) front (omega (arith, front_len)) in
        let ends_as : drop end new ≡ drop end old =
        ap (drop end) now
        ∙ drop-append-drop (written + count) old front end (omega (arith, fits, behind, more)) front_len in
        let others : drop end old ≡ drop (end - read) rest =
        ap (λ (m : ℕ). drop m old) {x = end} {y = read + (end - read)} (omega (arith, more))
        ∙ sym (drop-drop (end - read) read old) in
        record {
          all =
              (λ i. begins i ++ bytes_of ((ends_as ∙ others) i))
              ∙ append_assoc (take written old) points (bytes_of (drop (end - read) rest))
              ∙ ap (λ (bs : List ℕ). take written old ++ bs)
              (ap (λ (bs : List ℕ). bs ++ bytes_of (drop (end - read) rest)) converted
              ∙ piece n (end - read) rest (omega (arith, two)) part);
          behind = omega (arith, fits, behind, more);
          size =
              omega (
                arith,
                ap length now,
                length-append front (drop (written + count) old),
                front_len,
                length-drop (written + count) old,
                long,
                fits,
                behind,
                more,
              );
          within = long;
        }
