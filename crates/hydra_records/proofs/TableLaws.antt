-- The records of a table by index.
use Rattle.std.proofs.Common.{◌≡◌, ◌≤◌, ◌<◌, ◌+◌, ◌-◌, ◌*◌, ◌/◌, ℕ, zero, suc, List, [], ◌∷◌, length, take, drop}
use Rattle.std.proofs.Common.{Some, inl, inr, refl, ap, sym, ◌∙◌, arith}
use Rattle.std.specs.Prelude.{slice_get, min}
use Rattle.std.specs.List.{slice_range}
use Rattle.std.proofs.lemmas.List.{drop-drop, drop-take, length-drop, length-take, take-take, take_all, nil_from_length}
use Rattle.std.proofs.lemmas.Bool.{cases_lt}
use Rattle.std.proofs.Math.Seq.{take-nil}
use Rattle.std.proofs.Math.Nat.{suc-mul, zero-mul, add-mul, mul-le-mul_right, mul-div_cancel, div-mul-le_self}
use Rattle.std.proofs.Math.Nat.{div-eq_of_lt, div-eq-sub-div, min-eq_left, min-eq_right, min-le_right}
use Rattle.hydra_records.specs.Records.{first_records, records}

length-first_records : {R : Type 0} (size : ℕ) (of_bytes : List ℕ → R) (n : ℕ) (bytes : List ℕ)
    → length (first_records size of_bytes n bytes) ≡ n
length-first_records size of_bytes zero bytes = refl
length-first_records size of_bytes (suc n) bytes = ap suc (length-first_records size of_bytes n (drop size bytes))

pub length-records : {R : Type 0} (size : ℕ) (of_bytes : List ℕ → R) (bytes : List ℕ)
    → length (records size of_bytes bytes) ≡ length bytes / size
length-records size of_bytes bytes = length-first_records size of_bytes (length bytes / size) bytes

slice_get-first_records : {R : Type 0} (size : ℕ) (of_bytes : List ℕ → R) (n : ℕ) (bytes : List ℕ) (i : ℕ) → i < n
    → slice_get (first_records size of_bytes n bytes) i ≡ Some (of_bytes (take size (drop (i * size) bytes)))
slice_get-first_records size of_bytes zero bytes i h = absurd (omega arith)
slice_get-first_records size of_bytes (suc n) bytes zero h = rw (zero-mul size) refl
slice_get-first_records size of_bytes (suc n) bytes (suc i) h =
    let next : i * size + size ≡ suc i * size = omega (arith, suc-mul i size) in
    slice_get-first_records size of_bytes n (drop size bytes) i (omega arith)
    ∙ ap (λ (bs : List ℕ). Some (of_bytes (take size bs)))
    (drop-drop (i * size) size bytes ∙ ap (λ (n : ℕ). drop n bytes) (omega (arith, next)))

-- Record i of a table.
pub slice_get-records : {R : Type 0} (size : ℕ) (of_bytes : List ℕ → R) (bytes : List ℕ) (i : ℕ)
    → i < length bytes / size
    → slice_get (records size of_bytes bytes) i ≡ Some (of_bytes (take size (drop (i * size) bytes)))
slice_get-records size of_bytes bytes i h = slice_get-first_records size of_bytes (length bytes / size) bytes i h

-- It is within the bytes.
pub record_within : (bytes : List ℕ) (size i : ℕ) → i < length bytes / size → i * size + size ≤ length bytes
record_within bytes size i h =
    let up_to : suc i * size ≤ length bytes / size * size = mul-le-mul_right size h in
    let all = div-mul-le_self (length bytes) size in
    omega (arith, up_to, all, suc-mul i size)

pub length-record : (bytes : List ℕ) (size i : ℕ) → i < length bytes / size
    → length (take size (drop (i * size) bytes)) ≡ size
length-record bytes size i h =
    let within = record_within bytes size i h in
    omega (arith, within, length-take size (drop (i * size) bytes), length-drop (i * size) bytes)

-- ---- one after another

pub records-short : {R : Type 0} (size : ℕ) (of_bytes : List ℕ → R) (bytes : List ℕ) → length bytes < size
    → records size of_bytes bytes ≡ []
records-short size of_bytes bytes h = ap (λ (n : ℕ). first_records size of_bytes n bytes) (div-eq_of_lt h)

pub records-next : {R : Type 0} (size : ℕ) (of_bytes : List ℕ → R) (bytes : List ℕ) → 0 < size → size ≤ length bytes
    → records size of_bytes bytes ≡ of_bytes (take size bytes) ∷ records size of_bytes (drop size bytes)
records-next size of_bytes bytes some h =
    let others : length (drop size bytes) / size ≡ (length bytes - size) / size =
    ap (λ (n : ℕ). n / size) (length-drop size bytes) in
    let count : length bytes / size ≡ suc (length (drop size bytes) / size) =
    omega (arith, others, div-eq-sub-div some h) in
    ap (λ (n : ℕ). first_records size of_bytes n bytes) count

-- ---- a range

take-first_records : {R : Type 0} (size : ℕ) (of_bytes : List ℕ → R) (k n : ℕ) (bytes : List ℕ) → k ≤ n
    → take k (first_records size of_bytes n bytes) ≡ first_records size of_bytes k bytes
take-first_records size of_bytes zero n bytes h = refl
take-first_records size of_bytes (suc k) zero bytes h = absurd (omega arith)
take-first_records size of_bytes (suc k) (suc n) bytes h =
    ap (λ rs. of_bytes (take size bytes) ∷ rs) (take-first_records size of_bytes k n (drop size bytes) (omega arith))

drop-first_records : {R : Type 0} (size : ℕ) (of_bytes : List ℕ → R) (k n : ℕ) (bytes : List ℕ) → k ≤ n
    → drop k (first_records size of_bytes n bytes) ≡ first_records size of_bytes (n - k) (drop (k * size) bytes)
drop-first_records size of_bytes zero n bytes h =
    let all : n - 0 ≡ n = omega arith in
    rw (zero-mul size, all) refl
drop-first_records size of_bytes (suc k) zero bytes h = absurd (omega arith)
drop-first_records size of_bytes (suc k) (suc n) bytes h =
    let next : k * size + size ≡ suc k * size = omega (arith, suc-mul k size) in
    let fewer : suc n - suc k ≡ n - k = omega arith in
    rw fewer (drop-first_records size of_bytes k n (drop size bytes) (omega arith)
    ∙ ap (λ (bs : List ℕ). first_records size of_bytes (n - k) bs)
    (drop-drop (k * size) size bytes ∙ ap (λ (m : ℕ). drop m bytes) (omega (arith, next))))

first_records-front : {R : Type 0} (size : ℕ) (of_bytes : List ℕ → R) (k : ℕ) (bytes : List ℕ)
    → first_records size of_bytes k (take (k * size) bytes) ≡ first_records size of_bytes k bytes
first_records-front size of_bytes zero bytes = refl
first_records-front size of_bytes (suc k) bytes =
    let next : suc k * size ≡ size + k * size = omega (arith, suc-mul k size) in
    let first : take size (take (suc k * size) bytes) ≡ take size bytes =
    take-take size (suc k * size) bytes (omega (arith, next)) in
    let others : drop size (take (suc k * size) bytes) ≡ take (k * size) (drop size bytes) =
    ap (λ (m : ℕ). drop size (take m bytes)) next ∙ drop-take size (k * size) bytes in
    rw (first, others)
    (ap (λ rs. of_bytes (take size bytes) ∷ rs) (first_records-front size of_bytes k (drop size bytes)))

-- The number of bytes of a range.
pub length-part : (bytes : List ℕ) (size start end : ℕ) → start ≤ end → end ≤ length bytes / size
    → length (take ((end - start) * size) (drop (start * size) bytes)) ≡ (end - start) * size
length-part bytes size start end rising within =
    let up_to : end * size ≤ length bytes / size * size = mul-le-mul_right size within in
    let all = div-mul-le_self (length bytes) size in
    let split : (end - start) * size + start * size ≡ end * size =
    sym (add-mul (end - start) start size) ∙ ap (λ (n : ℕ). n * size) (omega arith) in
    omega (
      arith,
      up_to,
      all,
      split,
      length-take ((end - start) * size) (drop (start * size) bytes),
      length-drop (start * size) bytes,
    )

-- The records from start up to end, from their bytes.
pub records-part : {R : Type 0} (size : ℕ) (of_bytes : List ℕ → R) (bytes : List ℕ) (start end : ℕ) → 0 < size
    → start ≤ end → end ≤ length bytes / size
    → records size of_bytes (take ((end - start) * size) (drop (start * size) bytes))
    ≡ take (end - start) (drop start (records size of_bytes bytes))
records-part size of_bytes bytes start end some rising within =
    let count : length (take ((end - start) * size) (drop (start * size) bytes)) / size ≡ end - start =
    ap (λ (n : ℕ). n / size) (length-part bytes size start end rising within) ∙ mul-div_cancel (end - start) some in
    ap (λ (n : ℕ). first_records size of_bytes n (take ((end - start) * size) (drop (start * size) bytes))) count
    ∙ first_records-front size of_bytes (end - start) (drop (start * size) bytes)
    ∙ sym
    (take-first_records size of_bytes (end - start) (length bytes / size - start) (drop (start * size) bytes)
    (omega arith))
    ∙ ap (take (end - start)) (sym (drop-first_records size of_bytes start (length bytes / size) bytes (omega arith)))

-- A range may pass the end.
pub range_within : {X : Type 0} (xs : List X) (from to start end : ℕ) → end ≡ min to (length xs) → start ≡ min from end
    → slice_range xs from to ≡ take (end - start) (drop start xs)
range_within xs from to start end e s = elim (cases_lt (length xs) to) [
  | inr short ↦ (let here : end ≡ to = e ∙ min-eq_left short in inside here)
  | inl long ↦ (let here : end ≡ length xs = e ∙ min-eq_right (omega arith) in past here (omega arith))
]
  where
    inside : end ≡ to → slice_range xs from to ≡ take (end - start) (drop start xs)
    inside here = elim (cases_lt to from) [
      | inr le ↦ (let first : start ≡ from = s ∙ ap (min from) here ∙ min-eq_left le in rw (first, here) refl)
      | inl lt ↦ (
          let first : start ≡ to = s ∙ ap (min from) here ∙ min-eq_right (omega arith) in
          let none : to - from ≡ 0 = omega arith in
          let nothing : to - to ≡ 0 = omega arith in
          rw (first, here, none, nothing) refl)
    ]

    past : end ≡ length xs → length xs ≤ to → slice_range xs from to ≡ take (end - start) (drop start xs)
    past here le = elim (cases_lt (length xs) from) [
      | inr within ↦ (
          let first : start ≡ from = s ∙ ap (min from) here ∙ min-eq_left within in
          rw (first, here) (take_all (to - from) (drop from xs) (omega (arith, length-drop from xs))
          ∙ sym (take_all (length xs - from) (drop from xs) (omega (arith, length-drop from xs)))))
      | inl beyond ↦ (
          let first : start ≡ length xs = s ∙ ap (min from) here ∙ min-eq_right (omega arith) in
          let none : drop from xs ≡ [] = nil_from_length (drop from xs) (omega (arith, length-drop from xs)) in
          let nothing : length xs - length xs ≡ 0 = omega arith in
          rw (none, first, here, nothing) (take-nil (to - from)))
    ]

-- A clamped range is within the records, and its byte count does not overflow.
pub record Within (bytes : List ℕ) (size start end : ℕ) : Type 0 where
  pub rising : start ≤ end
  pub inside : end ≤ length bytes / size
  pub before : start * size ≤ length bytes
  pub part : (end - start) * size ≤ length bytes

pub cut_within : (bytes : List ℕ) (size from to start end : ℕ) → end ≡ min to (length bytes / size)
    → start ≡ min from end → Within bytes size start end
cut_within bytes size from to start end e s =
    let rising : start ≤ end = omega (arith, s, min-le_right from end) in
    let inside : end ≤ length bytes / size = omega (arith, e, min-le_right to (length bytes / size)) in
    let all = div-mul-le_self (length bytes) size in
    let before : start * size ≤ length bytes / size * size = mul-le-mul_right size (omega arith) in
    let part : (end - start) * size ≤ length bytes / size * size = mul-le-mul_right size (omega arith) in
    record { rising = rising; inside = inside; before = omega (arith, all, before); part = omega (arith, all, part) }
