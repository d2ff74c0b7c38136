-- The parts of names are texts, and short.
use Rattle.std.proofs.Common.{◌≡◌, ◌≤◌, ◌<◌, ◌+◌, ◌++◌, ℕ, List, [], ◌∷◌, length, take, map, decimal, sym, subst}
use Rattle.std.proofs.Common.{arith}
use Rattle.std.specs.List.{AllByRecursion}
use Rattle.std.specs.Int.Digits.{digits_of, AllBelowBase}
use Rattle.std.proofs.lemmas.Fmt.{length-decimal-le, decimal-digits_of}
use Rattle.std.proofs.lemmas.Int.Digits.{all_below_base_digits_of}
use Rattle.std.proofs.lemmas.List.{length-append}
use Rattle.sf_base.specs.Names.{before_zero, IsText, IsTextByte}
use Rattle.hydra_records.specs.Records.{AreBytes}
use Rattle.bank_format.proofs.AllLaws.{all-append}
use Rattle.wave_file.proofs.ImportLaws.{truncated_text}

-- the bytes before the first zero byte among the first n
pub front_text : (n : ℕ) (stem own : List ℕ) → AreBytes stem → own ≡ before_zero (take n stem) → IsText n own
front_text n stem own b e = rw e (truncated_text n stem b)

-- two texts after each other
pub two_texts : (m n k : ℕ) (xs ys : List ℕ) → IsText m xs → IsText n ys → m + n ≤ k → IsText k (xs ++ ys)
two_texts m n k xs ys x y fits =
    let l = length-append xs ys in
    let a = x.0 in
    let b = y.0 in
    (omega (arith, l, a, b, fits), all-append IsTextByte xs ys x.1 y.1)

digits_printed : (ds : List ℕ) → AllBelowBase 10 ds → AllByRecursion IsTextByte (map (λ d. 48 + d) ds)
digits_printed [] h = tt
digits_printed (d ∷ ds) h = let small = h.0 in ((omega arith, omega (arith, small)), digits_printed ds h.1)

-- the digits of a small number
pub digits_text : (k : ℕ) (digits : List ℕ) → 0 < k → k ≤ 99999 → digits ≡ decimal k
    → IsText 5 digits × IsText (length digits) digits
digits_text k digits some few e =
    let short = length-decimal-le 5 k (omega arith) (omega (arith, few)) (omega (arith, few)) in
    let printed =
    subst (AllByRecursion IsTextByte) (sym (decimal-digits_of k some (omega (arith, few))))
    (digits_printed (digits_of 10 k) (all_below_base_digits_of 10 k (omega arith))) in
    subst (λ ds. IsText 5 ds × IsText (length ds) ds) (sym e) ((short, printed), (omega arith, printed))
