-- The bytes of the names of the files of samples.
use Rattle.std.proofs.Common.{◌≡◌, ◌≤◌, ◌<◌, ◌+◌, ◌-◌, ◌*◌, ◌++◌, ℕ, zero, suc, Bool, true, false, not, List, [], ◌∷◌, length, map}
use Rattle.std.proofs.Common.{replicate, codes, nat_le, refl, sym, ap, ◌∙◌, arith, eqb-true}
use Rattle.std.specs.Prelude.{◌&&◌, ◌||◌, ◌==◌, if◌then◌else◌, slice_index}
use Rattle.std.specs.Int.Digits.{digits_of, AllBelowBase}
use Rattle.std.specs.List.{list_all}
use Rattle.std.proofs.lemmas.Bool.{and_parts, and_from, le-leb}
use Rattle.std.proofs.lemmas.Bool.Decides.{nat_tests}
use Rattle.std.proofs.lemmas.Int.Digits.{all_below_base_digits_of}
use Rattle.std.proofs.lemmas.List.Folds.{list_all-append}
use Rattle.script_tokens.specs.Printing.{is_quotable}
use Rattle.script_tokens.proofs.TestLaws.{list_all_weaker}
use Rattle.bank_folders.specs.SampleFiles.{file_byte, file_digits, is_kept, is_reserved, name_part, sample_file}

-- ---- all bytes are kept

zeros_kept : (k : ℕ) → list_all is_kept (replicate k 48) ≡ true
zeros_kept zero = refl
zeros_kept (suc k) = zeros_kept k

digit_kept : (d : ℕ) → d < 10 → is_kept (48 + d) ≡ true
digit_kept d h =
    let low : nat_le 32 (48 + d) ≡ true = le-leb 32 (48 + d) (omega arith) in
    let high : nat_le (48 + d) 126 ≡ true = le-leb (48 + d) 126 (omega (arith, h)) in
    let a : (48 + d == 34) ≡ false = grind (arith, nat_tests) in
    let b : (48 + d == 42) ≡ false = grind (arith, nat_tests) in
    let c : (48 + d == 47) ≡ false = grind (arith, nat_tests) in
    let e : (48 + d == 58) ≡ false = grind (arith, nat_tests, h) in
    let f : (48 + d == 60) ≡ false = grind (arith, nat_tests, h) in
    let g : (48 + d == 62) ≡ false = grind (arith, nat_tests, h) in
    let i : (48 + d == 63) ≡ false = grind (arith, nat_tests, h) in
    let j : (48 + d == 92) ≡ false = grind (arith, nat_tests, h) in
    let k : (48 + d == 124) ≡ false = grind (arith, nat_tests, h) in
    rw (low, high, a, b, c, e, f, g, i, j, k) refl

digits_kept : (ds : List ℕ) → AllBelowBase 10 ds → list_all is_kept (map (λ d. 48 + d) ds) ≡ true
digits_kept [] h = refl
digits_kept (d ∷ ds) h = and_from _ _ (digit_kept d h.0) (digits_kept ds h.1)

byte_kept : (b : ℕ) → is_kept (file_byte b) ≡ true
byte_kept b = from (is_kept b) refl
  where
    from : (t : Bool) → is_kept b ≡ t → is_kept (if t then b else 95) ≡ true
    from false e = refl
    from true e = e

bytes_kept : (name : List ℕ) → list_all is_kept (map file_byte name) ≡ true
bytes_kept [] = refl
bytes_kept (b ∷ name) = and_from _ _ (byte_kept b) (bytes_kept name)

name_kept : (name : List ℕ) → list_all is_kept (name_part name) ≡ true
name_kept [] = refl
name_kept (b ∷ name) = bytes_kept (b ∷ name)

both_kept : (xs ys : List ℕ) → list_all is_kept xs ≡ true → list_all is_kept ys ≡ true → list_all is_kept (xs ++ ys) ≡ true
both_kept xs ys h k = list_all-append is_kept xs ys ∙ and_from _ _ h k

file_kept : (n : ℕ) (name : List ℕ) → list_all is_kept (sample_file n name) ≡ true
unfolding sample_file file_digits
file_kept n name =
    let two : 2 ≤ 10 = omega arith in
    let ds = digits_of 10 n in
    let zeros = replicate (4 - length ds) 48 in
    let digits = map (λ d. 48 + d) ds in
    both_kept (zeros ++ digits ++ name_part name) (codes ".wav")
    (both_kept (zeros ++ digits) (name_part name)
    (both_kept zeros digits (zeros_kept (4 - length ds)) (digits_kept ds (all_below_base_digits_of 10 n two)))
    (name_kept name)) refl

-- ---- what is kept can be quoted, and is no slash

is_not_kept : (b k : ℕ) → is_kept k ≡ false → is_kept b ≡ true → (b == k) ≡ false
is_not_kept b k never e = from (b == k) refl
  where
    from : (t : Bool) → (b == k) ≡ t → t ≡ false
    from false f = refl
    from true f = let bad = sym e ∙ ap is_kept (eqb-true b k f) ∙ never in absurd cc

kept_parts : (x y z : Bool) → (x && y && not z) ≡ true → (x ≡ true) × (y ≡ true)
kept_parts true true z e = (refl, refl)
kept_parts true false z e = absurd cc
kept_parts false y z e = absurd cc

kept_quotable : (b : ℕ) → is_kept b ≡ true → is_quotable b ≡ true
kept_quotable b e =
    let kept = kept_parts (nat_le 32 b) (nat_le b 126) (is_reserved b) e in
    let low = kept.0 in
    let high = kept.1 in
    let other = is_not_kept b 34 refl e in
    rw (low, high, other) refl

pub file_quotable : (n : ℕ) (name : List ℕ) → list_all is_quotable (sample_file n name) ≡ true
file_quotable n name = list_all_weaker is_kept is_quotable kept_quotable (sample_file n name) (file_kept n name)

relative : (file : List ℕ) → list_all is_kept file ≡ true → (slice_index file 0 == 47) ≡ false
relative [] h = refl
relative (b ∷ file) h = is_not_kept b 47 refl (and_parts (is_kept b) (list_all is_kept file) h).0

-- a name is a relative path
pub file_relative : (n : ℕ) (name : List ℕ) → (slice_index (sample_file n name) 0 == 47) ≡ false
file_relative n name = relative (sample_file n name) (file_kept n name)
