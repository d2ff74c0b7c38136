-- The bytes before the first zero.
use Rattle.std.proofs.Common.{◌≡◌, ◌≤◌, ◌==◌, ◌+◌, ◌∙◌, ℕ, zero, suc, false, not, cond, eqb, ltb, List, [], ◌∷◌}
use Rattle.std.proofs.Common.{length, take, Option, Some, None, unwrap_or, refl, ap, inl, inr, arith}
use Rattle.std.proofs.lemmas.Bool.{ne_eqb, cases_lt, lt-ltb, le-ltb}
use Rattle.std.proofs.lemmas.List.Sums.{prefix_len-le-length}
use Rattle.std.specs.List.{position_or_len, prefix_len}
use Rattle.sf_base.specs.Names.{before_zero}

not_zero : (b : ℕ) → eqb (suc b) 0 ≡ false
not_zero b = ne_eqb _ _ (λ e. absurd (omega (arith, e)))

pub take_position : (bytes : List ℕ) → take (position_or_len (λ b. b == 0) bytes) bytes ≡ before_zero bytes
take_position [] = refl
take_position (zero ∷ bytes) = refl
take_position (suc b ∷ bytes) =
    let next : 1 + prefix_len (λ x. not (x == 0)) bytes ≡ suc (prefix_len (λ x. not (x == 0)) bytes) = omega arith in
    rw (not_zero b, next) (ap (λ bs. suc b ∷ bs) (take_position bytes))

-- the same, found by a search
pub before_found : (bytes : List ℕ) (found : Option ℕ) (end : ℕ)
    → found
    ≡ cond (ltb (position_or_len (λ b. b == 0) bytes) (length bytes)) (Some (position_or_len (λ b. b == 0) bytes))
    None
    → end ≡ unwrap_or found (length bytes) → take end bytes ≡ before_zero bytes
before_found bytes found end is at =
    let within : position_or_len (λ b. b == 0) bytes ≤ length bytes = prefix_len-le-length (λ b. not (b == 0)) bytes in
    let e : end ≡ position_or_len (λ b. b == 0) bytes =
    at ∙ ap (λ (o : Option ℕ). unwrap_or o (length bytes)) is
    ∙ either (position_or_len (λ b. b == 0) bytes) (length bytes) within in
    ap (λ (n : ℕ). take n bytes) e ∙ take_position bytes
  where
    either : (p n : ℕ) → p ≤ n → unwrap_or (cond (ltb p n) (Some p) None) n ≡ p
    either p n h = elim (cases_lt p n) [
      | inl lt ↦ rw (lt-ltb p n lt) refl
      | inr le ↦ (let e : n ≡ p = omega arith in rw (le-ltb p n le) e)
    ]
