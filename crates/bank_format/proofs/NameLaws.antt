-- The bytes before the first zero, also of a text padded with zeros.
use Rattle.std.proofs.Common.{◌≡◌, ◌≤◌, ◌<◌, ◌-◌, ℕ, zero, suc, List, [], ◌∷◌, ◌++◌, length, replicate, refl, ap}
use Rattle.std.proofs.Common.{◌∙◌, arith}
use Rattle.std.specs.List.{AllByRecursion}
use Rattle.std.proofs.lemmas.List.{append-nil, length-append, length-replicate}
use Rattle.sf_base.specs.Names.{before_zero, IsTextByte, IsName, filled}

before_zero-byte : (b : ℕ) (bs : List ℕ) → 0 < b → before_zero (b ∷ bs) ≡ b ∷ before_zero bs
before_zero-byte zero bs h = absurd (omega arith)
before_zero-byte (suc b) bs h = refl

before_zero-then : (n rest : List ℕ) → AllByRecursion IsTextByte n → before_zero (n ++ 0 ∷ rest) ≡ n
before_zero-then [] rest h = refl
before_zero-then (b ∷ n) rest h =
    before_zero-byte b (n ++ 0 ∷ rest) h.0.0 ∙ ap (λ (x : List ℕ). b ∷ x) (before_zero-then n rest h.1)

before_zero-whole : (n : List ℕ) → AllByRecursion IsTextByte n → before_zero n ≡ n
before_zero-whole [] h = refl
before_zero-whole (b ∷ n) h = before_zero-byte b n h.0.0 ∙ ap (λ (x : List ℕ). b ∷ x) (before_zero-whole n h.1)

-- the bytes before the first zero of a padded text are the text
pub before_zero-zeros : (n : List ℕ) (k : ℕ) → AllByRecursion IsTextByte n → before_zero (n ++ replicate k 0) ≡ n
before_zero-zeros n zero h = ap before_zero (append-nil n) ∙ before_zero-whole n h
before_zero-zeros n (suc k) h = before_zero-then n (replicate k 0) h

pub before_zero-filled : (n : List ℕ) → IsName n → before_zero (filled n) ≡ n
before_zero-filled n h = before_zero-zeros n (20 - length n) h.1

pub length-filled : (n : List ℕ) → length n ≤ 20 → length (filled n) ≡ 20
length-filled n le =
    omega (arith, length-append n (replicate (20 - length n) 0), length-replicate {A = ℕ} (20 - length n) 0)

-- the bytes before the first zero contain no zero
pub before_zero-bytes : (bs : List ℕ) → AllByRecursion (λ b. b < 256) bs → AllByRecursion IsTextByte (before_zero bs)
before_zero-bytes [] h = tt
before_zero-bytes (zero ∷ bs) h = tt
before_zero-bytes (suc b ∷ bs) h = ((omega arith, h.0), before_zero-bytes bs h.1)

pub length-before_zero : (bs : List ℕ) → length (before_zero bs) ≤ length bs
length-before_zero [] = omega arith
length-before_zero (zero ∷ bs) = omega arith
length-before_zero (suc b ∷ bs) = let h = length-before_zero bs in omega (arith, h)
