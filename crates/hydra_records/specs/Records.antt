-- Tables: bytes as a list of records of one size; and the laws between records and their bytes.
use Rattle.std.specs.Prelude.{◌≡◌, ◌<◌, ◌*◌, ◌/◌, ℕ, zero, suc, List, [], ◌∷◌, length, take, drop}
use Rattle.std.specs.List.{All, AllByRecursion, flat_map}

-- The first n records of the bytes.
abbrev pub first_records : {R : Type 0} → ℕ → (List ℕ → R) → ℕ → List ℕ → List R
first_records size of_bytes zero bytes = []
first_records size of_bytes (suc n) bytes = of_bytes (take size bytes) ∷ first_records size of_bytes n (drop size bytes)

-- All records of the bytes.
abbrev pub records : {R : Type 0} → ℕ → (List ℕ → R) → List ℕ → List R
records size of_bytes bytes = first_records size of_bytes (length bytes / size) bytes

-- Each item is a byte.
abbrev pub AreBytes : List ℕ → Type 0
AreBytes bytes = All (λ b. b < 256) bytes

-- The bytes of a record have its size.
abbrev pub HasSize : {R : Type 0} → ℕ → (R → List ℕ) → (R → Type 0) → Type 0
HasSize {R = R} size bytes_of fits = (r : R) → fits r → length (bytes_of r) ≡ size

-- The bytes of a record read as that record.
abbrev pub ReadsBack : {R : Type 0} → (List ℕ → R) → (R → List ℕ) → (R → Type 0) → Type 0
ReadsBack {R = R} of_bytes bytes_of fits = (r : R) → fits r → of_bytes (bytes_of r) ≡ r

-- A record read from bytes fits.
abbrev pub ReadFits : {R : Type 0} → ℕ → (List ℕ → R) → (R → Type 0) → Type 0
ReadFits size of_bytes fits = (bytes : List ℕ) → AreBytes bytes → length bytes ≡ size → fits (of_bytes bytes)

-- The bytes of consecutive records have the size of each.
abbrev pub RecordsHaveSize : {R : Type 0} → ℕ → (R → List ℕ) → (R → Type 0) → Type 0
RecordsHaveSize {R = R} size bytes_of fits =
    (rs : List R) → AllByRecursion fits rs → length (flat_map bytes_of rs) ≡ length rs * size

-- The bytes of consecutive records are a table of those records.
abbrev pub RecordsReadBack : {R : Type 0} → ℕ → (List ℕ → R) → (R → List ℕ) → (R → Type 0) → Type 0
RecordsReadBack {R = R} size of_bytes bytes_of fits =
    (rs : List R) → AllByRecursion fits rs → records size of_bytes (flat_map bytes_of rs) ≡ rs

-- The records read from bytes fit.
abbrev pub RecordsReadFit : {R : Type 0} → ℕ → (List ℕ → R) → (R → Type 0) → Type 0
RecordsReadFit size of_bytes fits =
    (bytes : List ℕ) → AreBytes bytes → AllByRecursion fits (records size of_bytes bytes)

-- A record type is lawful: the bytes of one or more records have their size and read as those records, and a record
-- read from bytes fits.
pub record IsLawful {R : Type 0} (size : ℕ) (of_bytes : List ℕ → R) (bytes_of : R → List ℕ) (fits : R → Type 0) :
    Type 0 where
  pub has_size : HasSize size bytes_of fits
  pub reads_back : ReadsBack of_bytes bytes_of fits
  pub read_fits : ReadFits size of_bytes fits
  pub records_have_size : RecordsHaveSize size bytes_of fits
  pub records_read_back : RecordsReadBack size of_bytes bytes_of fits
  pub records_read_fit : RecordsReadFit size of_bytes fits
