-- The number that the name of a file begins with.
use Rattle.std.proofs.Common.{◌≡◌, ◌≤◌, ◌<◌, ◌+◌, ◌-◌, ◌*◌, ◌^◌, ◌++◌, ℕ, zero, suc, true, List, [], ◌∷◌, length, map}
use Rattle.std.proofs.Common.{replicate, codes, decimal, get_or, take, refl, sym, ap, ◌∙◌, arith}
use Rattle.std.specs.Prelude.{if◌then◌else◌}
use Rattle.std.specs.Fmt.{digits}
use Rattle.std.specs.Int.Digits.{digits_of, number_from_digits_after, AllBelowBase}
use Rattle.std.proofs.lemmas.Bool.{le-leb}
use Rattle.std.proofs.lemmas.List.{append_assoc, length-map, map-append}
use Rattle.std.proofs.lemmas.Fmt.{decimal-digits_of}
use Rattle.std.proofs.lemmas.Int.Digits.{all_below_base_digits_of, number_digits_of}
use Rattle.script_tokens.specs.Parsers.{is_digit}
use Rattle.bank_parts.specs.declared.parts.Sample.{Sample}
use Rattle.bank_folders.specs.Laws.{files_from}
use Rattle.bank_folders.specs.SampleFiles.{file_digits, name_part, sample_file, SampleFilesDiffer}

-- ---- the digits that are written

written : (n : ℕ) (printed : List ℕ) → printed ≡ map (λ d. 48 + d) (digits_of 10 n)
    → replicate (4 - length printed) 48 ++ printed ≡ file_digits n
unfolding file_digits
written n printed e =
    let same : length printed ≡ length (digits_of 10 n) =
    ap length e ∙ length-map (digits_of 10 n) (λ d. 48 + d) in
    λ i. replicate (4 - same i) 48 ++ e i

-- a number as it is printed, with zeros before it
padded : (n : ℕ) → n < 2 ^ 64 → replicate (4 - length (decimal n)) 48 ++ decimal n ≡ file_digits n
unfolding file_digits digits
padded zero h = refl
padded (suc n) h = written (suc n) (decimal (suc n)) (decimal-digits_of (suc n) (omega arith) h)

-- zeros and then a printed number are appended
pub number_pushed : (old zeroed new printed : List ℕ) (n zeros : ℕ) → n < 2 ^ 64 → printed ≡ decimal n
    → zeros ≡ 4 - length printed → zeroed ≡ old ++ replicate zeros 48 → new ≡ zeroed ++ printed
    → new ≡ old ++ file_digits n
number_pushed old zeroed new printed n zeros h e count first last =
    last
    ∙ ap (λ bytes. bytes ++ printed) first
    ∙ append_assoc old (replicate zeros 48) printed
    ∙ (λ i. old ++ (replicate (count i) 48 ++ printed))
    ∙ (λ i. old ++ (replicate (4 - length (e i)) 48 ++ e i))
    ∙ ap (λ bytes. old ++ bytes) (padded n h)

-- ---- the number that bytes begin with

-- the number n with the digits that follow, up to the first other byte
number_after : ℕ → List ℕ → ℕ
number_after n [] = n
number_after n (b ∷ bytes) = if is_digit b then number_after (n * 10 + (b - 48)) bytes else n

after_zeros : (k : ℕ) (bytes : List ℕ) → number_after 0 (replicate k 48 ++ bytes) ≡ number_after 0 bytes
unfolding number_after
after_zeros zero bytes = refl
after_zeros (suc k) bytes = after_zeros k bytes

after_digits : (n : ℕ) (ds rest : List ℕ) → AllBelowBase 10 ds → ((m : ℕ) → number_after m rest ≡ m)
    → number_after n (map (λ d. 48 + d) ds ++ rest) ≡ number_from_digits_after 10 n ds
unfolding number_after
after_digits n [] rest h ends = ends n
after_digits n (d ∷ ds) rest h ends =
    let below = h.0 in
    let low = le-leb 48 (48 + d) (omega arith) in
    let high = le-leb (48 + d) 57 (omega (arith, below)) in
    let digit : is_digit (48 + d) ≡ true = rw (low, high) refl in
    let value : n * 10 + (48 + d - 48) ≡ n * 10 + d = omega arith in
    rw (digit, value) (after_digits (n * 10 + d) ds rest h.1 ends)

-- what follows the digits begins with another byte
after_name : (name : List ℕ) (m : ℕ) → number_after m (name_part name ++ codes ".wav") ≡ m
unfolding number_after
after_name [] m = refl
after_name (b ∷ name) m = refl

file_number : (n : ℕ) (name : List ℕ) → number_after 0 (sample_file n name) ≡ n
unfolding sample_file file_digits
file_number n name =
    let two : 2 ≤ 10 = omega arith in
    let ds = digits_of 10 n in
    let zeros = replicate (4 - length ds) 48 in
    let printed = map (λ d. 48 + d) ds in
    let wav = codes ".wav" in
    let parts : zeros ++ printed ++ name_part name ++ wav ≡ zeros ++ (printed ++ (name_part name ++ wav)) =
    append_assoc (zeros ++ printed) (name_part name) wav ∙ append_assoc zeros printed (name_part name ++ wav) in
    ap (number_after 0) parts
    ∙ after_zeros (4 - length ds) (printed ++ (name_part name ++ wav))
    ∙ after_digits 0 ds (name_part name ++ wav) (all_below_base_digits_of 10 n two) (after_name name)
    ∙ number_digits_of 10 n two

pub files_differ : SampleFilesDiffer
files_differ m n a b same = sym (file_number m a) ∙ (ap (number_after 0) same ∙ file_number n b)

-- ---- the names of the files of samples

-- one more name
names_on : (n : ℕ) (samples : List Sample) (i : ℕ) (x : Sample) → i < length samples
    → files_from n (take (suc i) samples)
    ≡ files_from n (take i samples) ++ sample_file (n + i) (get_or samples i x).name ∷ []
names_on n [] i x l = absurd (omega (arith, l))
names_on n (s ∷ samples) zero x l =
    let e : n ≡ n + zero = omega arith in (λ i. sample_file (e i) s.name ∷ [])
names_on n (s ∷ samples) (suc i) x l =
    let e : suc n + i ≡ n + suc i = omega arith in
    ap (λ (names : List (List ℕ)). sample_file n s.name ∷ names)
    (names_on (suc n) samples i x (omega (arith, l))
    ∙ ap (λ (m : ℕ). files_from (suc n) (take i samples) ++ sample_file m (get_or samples i x).name ∷ []) e)

-- a name is pushed
pub name_pushed : {X : Type 0} (name_of : X → List ℕ) (old new : List X) (value : X) (samples : List Sample) (i : ℕ)
    (x : Sample) → i < length samples → x ≡ get_or samples i x → new ≡ old ++ value ∷ []
    → name_of value ≡ sample_file i x.name → map name_of old ≡ files_from 0 (take i samples)
    → map name_of new ≡ files_from 0 (take (i + 1) samples)
name_pushed name_of old new value samples i x l is push named was =
    let here : i ≡ 0 + i = omega arith in
    let next : suc i ≡ i + 1 = omega arith in
    ap (map name_of) push
    ∙ map-append name_of old (value ∷ [])
    ∙ (λ j. was j ++ named j ∷ [])
    ∙ (λ j. files_from 0 (take i samples) ++ sample_file (here j) (is j).name ∷ [])
    ∙ sym (names_on 0 samples i x l)
    ∙ ap (λ (m : ℕ). files_from 0 (take m samples)) next
