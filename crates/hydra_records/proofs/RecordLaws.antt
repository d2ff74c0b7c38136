-- Consecutive records of any type.
use Rattle.std.proofs.Common.{◌≡◌, ◌≤◌, ◌<◌, ◌*◌, ◌/◌, ℕ, zero, suc, List, [], ◌∷◌, length, take, drop, refl, sym}
use Rattle.std.proofs.Common.{ap, ◌∙◌, arith}
use Rattle.std.specs.List.{AllByRecursion, flat_map}
use Rattle.std.proofs.lemmas.List.{length-append, take_at, drop_at, length-take, length-drop}
use Rattle.std.proofs.lemmas.List.Elements.{All-take, All-drop}
use Rattle.std.proofs.Math.Nat.{mul-div_cancel_left, suc-mul, zero-mul, mul_comm, div-mul-le_self}
use Rattle.hydra_records.specs.Records.{first_records, AreBytes, HasSize, ReadsBack, ReadFits, RecordsHaveSize}
use Rattle.hydra_records.specs.Records.{RecordsReadBack, RecordsReadFit, IsLawful}

-- Their bytes.
module _ {R : Type 0} (size : ℕ) (of_bytes : List ℕ → R) (bytes_of : R → List ℕ) (fits : R → Type 0)
    (sized : HasSize size bytes_of fits) where
  pub length-records_bytes : RecordsHaveSize size bytes_of fits
  length-records_bytes [] f = sym (zero-mul size)
  length-records_bytes (r ∷ rs) f =
      let one = sized r f.0 in
      let others = length-records_bytes rs f.1 in
      omega (arith, one, others, length-append (bytes_of r) (flat_map bytes_of rs), suc-mul (length rs) size)

  first_records-bytes : ReadsBack of_bytes bytes_of fits → (rs : List R) → AllByRecursion fits rs
      → first_records size of_bytes (length rs) (flat_map bytes_of rs) ≡ rs
  first_records-bytes back [] f = refl
  first_records-bytes back (r ∷ rs) f =
      let l = sized r f.0 in
      let front = ap of_bytes (take_at (bytes_of r) (flat_map bytes_of rs) size l) ∙ back r f.0 in
      let rest =
      ap (first_records size of_bytes (length rs)) (drop_at (bytes_of r) (flat_map bytes_of rs) size l)
      ∙ first_records-bytes back rs f.1 in
      λ i. front i ∷ rest i

  pub records-bytes : 0 < size → ReadsBack of_bytes bytes_of fits → RecordsReadBack size of_bytes bytes_of fits
  records-bytes some back rs f =
      let n : length (flat_map bytes_of rs) / size ≡ length rs =
      ap (λ (k : ℕ). k / size) (length-records_bytes rs f ∙ mul_comm (length rs) size)
      ∙ mul-div_cancel_left (length rs) {n = size} some in
      ap (λ (k : ℕ). first_records size of_bytes k (flat_map bytes_of rs)) n ∙ first_records-bytes back rs f

-- The records in bytes.
module _ {R : Type 0} (size : ℕ) (of_bytes : List ℕ → R) (fits : R → Type 0) (read : ReadFits size of_bytes fits) where
  first_records-fit : (n : ℕ) (bytes : List ℕ) → AreBytes bytes → n * size ≤ length bytes
      → AllByRecursion fits (first_records size of_bytes n bytes)
  first_records-fit zero bytes b h = tt
  first_records-fit (suc n) bytes b h =
      let more = suc-mul n size in
      let one : length (take size bytes) ≡ size = omega (arith, h, more, length-take size bytes) in
      let others : n * size ≤ length (drop size bytes) = omega (arith, h, more, length-drop size bytes) in (
        read (take size bytes) (All-take (λ x. x < 256) size bytes b) one,
        first_records-fit n (drop size bytes) (All-drop (λ x. x < 256) size bytes b) others,
      )

  pub records-fit : RecordsReadFit size of_bytes fits
  records-fit bytes b = first_records-fit (length bytes / size) bytes b (div-mul-le_self (length bytes) size)

-- All laws of a record type.
pub is_lawful : {R : Type 0} (size : ℕ) (of_bytes : List ℕ → R) (bytes_of : R → List ℕ) (fits : R → Type 0)
    → 0 < size → HasSize size bytes_of fits → ReadsBack of_bytes bytes_of fits → ReadFits size of_bytes fits
    → IsLawful size of_bytes bytes_of fits
is_lawful size of_bytes bytes_of fits some sized back read = record {
  has_size = sized;
  reads_back = back;
  read_fits = read;
  records_have_size = length-records_bytes size of_bytes bytes_of fits sized;
  records_read_back = records-bytes size of_bytes bytes_of fits sized some back;
  records_read_fit = records-fit size of_bytes fits read;
}
