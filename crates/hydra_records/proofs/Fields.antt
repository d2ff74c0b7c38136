-- The fields of a record: the laws of one field, and of two fields in a row.
use Rattle.std.proofs.Common.{inl, inr, ◌≡◌, ◌≤◌, ◌<◌, ◌+◌, ◌^◌, ℕ, ℤ, List, [], ◌++◌, length, take, drop, get_or}
use Rattle.std.proofs.Common.{ap, sym, ◌∙◌, arith, FitsSigned}
use Rattle.std.specs.Int.{Width, cast_signed, cast_unsigned}
use Rattle.std.proofs.lemmas.List.{append-nil, append_assoc, length-append, length-drop, length-take, take_at}
use Rattle.std.proofs.lemmas.List.{drop_at, drop-drop, get_or-drop, get_or_past}
use Rattle.std.proofs.lemmas.Bool.{cases_lt}
use Rattle.std.proofs.lemmas.Int.{to_z-of_z}
use borrow.Author.Gap.{read_sfits}
use Rattle.byteorder.specs.Endian.{little_number, little_bytes}
use Rattle.byteorder.specs.Numbers.{little_number-reads_back, little_from-lt, length-bytes_low_first}
use Rattle.sf_base.specs.Fields.{field_at}
use Rattle.hydra_records.specs.Records.{AreBytes, IsLawful}
use Rattle.hydra_records.proofs.RecordLaws.{is_lawful}

-- The values of a field, its bytes, and the laws between them.
pub record Field : Type 1 where
  pub Value : Type 0
  pub size : ℕ
  pub read : ℕ → List ℕ → Value
  pub spelled : Value → List ℕ
  pub Fits : Value → Type 0
  pub has_size : (v : Value) → Fits v → length (spelled v) ≡ size
  pub reads_back : (v : Value) → Fits v → (at : ℕ) (rest b : List ℕ) → drop at b ≡ spelled v ++ rest → read at b ≡ v
  pub read_fits : (at : ℕ) (b : List ℕ) → AreBytes b → at + size ≤ length b → Fits (read at b)

-- ---- one field

-- Each byte, and 0 past the end.
byte_lt : (bytes : List ℕ) → AreBytes bytes → (k : ℕ) → get_or bytes k 0 < 256
byte_lt bytes b k =
    elim (cases_lt k (length bytes)) [ inl lt ↦ b k 0 lt | inr le ↦ rw (get_or_past bytes k 0 le) (omega arith) ]

-- A number of n bytes.
pub field_at-lt : (at n : ℕ) (bytes : List ℕ) → AreBytes bytes → field_at at n bytes < 256 ^ n
field_at-lt at n bytes b =
    little_from-lt 0 n (drop at bytes) (λ k. rw (get_or-drop at bytes k 0) (byte_lt bytes b (at + k)))

abbrev pub number : ℕ → Field
number n = record {
  Value = ℕ;
  size = n;
  read = λ at b. field_at at n b;
  spelled = little_bytes n;
  Fits = λ x. x < 256 ^ n;
  has_size = λ x f. length-bytes_low_first 0 n x;
  reads_back = λ x f at rest b e. ap (little_number n) e ∙ little_number-reads_back n x rest f;
  read_fits = λ at b bytes h. field_at-lt at n b bytes;
}

-- A signed number of n bytes.
abbrev pub signed : (n : ℕ) (w : Width) → ((z : ℤ) → FitsSigned w z → cast_unsigned w z < 256 ^ n) → Field
signed n w small = record {
  Value = ℤ;
  size = n;
  read = λ at b. cast_signed w (field_at at n b);
  spelled = λ z. little_bytes n (cast_unsigned w z);
  Fits = FitsSigned w;
  has_size = λ z f. length-bytes_low_first 0 n (cast_unsigned w z);
  reads_back = λ z f at rest b e.
      let bits_are = ap (little_number n) e ∙ little_number-reads_back n (cast_unsigned w z) rest (small z f) in
      ap (cast_signed w) bits_are ∙ to_z-of_z w z f;
  read_fits = λ at b bytes h. read_sfits w (field_at at n b);
}

-- The 20 bytes of a name.
abbrev pub name : Field
name = record {
  Value = List ℕ;
  size = 20;
  read = λ at b. take 20 (drop at b);
  spelled = λ bytes. bytes;
  Fits = λ bytes. length bytes ≡ 20;
  has_size = λ bytes f. f;
  reads_back = λ bytes f at rest b e. ap (take 20) e ∙ take_at bytes rest 20 f;
  read_fits = λ at b bytes h. omega (arith, h, length-take 20 (drop at b), length-drop at b);
}

-- ---- a field followed by others

infixr 30 ◌&◌
abbrev pub ◌&◌ : Field → Field → Field
f & g = record {
  Value = f.Value × g.Value;
  size = f.size + g.size;
  read = λ at b. (f.read at b, g.read (at + f.size) b);
  spelled = λ v. f.spelled v.0 ++ g.spelled v.1;
  Fits = λ v. f.Fits v.0 × g.Fits v.1;
  has_size = λ v fits.
      let first = f.has_size v.0 fits.0 in
      let others = g.has_size v.1 fits.1 in
      omega (arith, first, others, length-append (f.spelled v.0) (g.spelled v.1));
  reads_back = λ v fits at rest b e.
      let others = g.spelled v.1 ++ rest in
      let front = e ∙ append_assoc (f.spelled v.0) (g.spelled v.1) rest in
      let back =
      sym (drop-drop f.size at b) ∙ ap (drop f.size) front
      ∙ drop_at (f.spelled v.0) others f.size (f.has_size v.0 fits.0) in
      let first = f.reads_back v.0 fits.0 at others b front in
      let later = g.reads_back v.1 fits.1 (at + f.size) rest b back in
      λ i. (first i, later i);
  read_fits = λ at b bytes h. (f.read_fits at b bytes (omega arith), g.read_fits (at + f.size) b bytes (omega arith));
}

-- ---- a record of fields

pub lawful : {R : Type 0} (f : Field) (fits : R → Type 0) → 0 < f.size
    → (of_value : f.Value → R) (value_of : R → f.Value) → ((v : f.Value) → f.Fits v → fits (of_value v))
    → ((r : R) → fits r → f.Fits (value_of r))
    → ((r : R) → of_value (value_of r) ≡ r)
    → IsLawful f.size (λ b. of_value (f.read 0 b)) (λ r. f.spelled (value_of r)) fits
lawful f fits some of_value value_of record_fits value_fits same =
    is_lawful f.size (λ b. of_value (f.read 0 b)) (λ r. f.spelled (value_of r)) fits some
    (λ r h. f.has_size (value_of r) (value_fits r h))
    (λ r h.
    ap of_value
    (f.reads_back (value_of r) (value_fits r h) 0 [] (f.spelled (value_of r))
    (sym (append-nil (f.spelled (value_of r)))))
    ∙ same r)
    (λ bytes b e. record_fits (f.read 0 bytes) (f.read_fits 0 bytes b (omega (arith, e))))
