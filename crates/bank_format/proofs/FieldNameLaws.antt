-- The bytes of a field before its first zero are a valid name.
use Rattle.std.proofs.Common.{◌≡◌, ◌≤◌, ◌<◌, ◌↔◌, ℕ, zero, suc, List, [], ◌∷◌, length, get_or, Result, Ok, Err, refl}
use Rattle.std.proofs.Common.{arith}
use Rattle.std.specs.List.{Contains}
use Rattle.std.specs.Result.{IsOk}
use Rattle.sf_base.specs.declared.name.NameFault.{NameFault}
use Rattle.sf_base.specs.declared.name.NameFault.TheVariants.{TooLong, ZeroByte}
use Rattle.sf_base.specs.Names.{before_zero}
use Rattle.bank_format.proofs.NameLaws.{length-before_zero}

no_zero_at : (field : List ℕ) (k : ℕ) → k < length (before_zero field) → get_or (before_zero field) k 0 ≡ 0 → ⊥
no_zero_at [] k lt e = omega (arith, lt)
no_zero_at (zero ∷ field) k lt e = omega (arith, lt)
no_zero_at (suc b ∷ field) zero lt e = omega (arith, e)
no_zero_at (suc b ∷ field) (suc k) lt e = no_zero_at field k (omega (arith, lt)) e

no_zero : (field : List ℕ) → Contains (before_zero field) 0 → ⊥
no_zero field c = no_zero_at field c.0 c.1 c.2

is_ok : (r : Result (List ℕ) NameFault) (text : List ℕ) → length text ≤ 20 → ¬ (Contains text 0)
    → (r ≡ Err TooLong → 20 < length text) → (r ≡ Err ZeroByte → (length text ≤ 20) × Contains text 0) → IsOk r
is_ok (Ok name) text short clean long none = refl
is_ok (Err TooLong) text short clean long none = absurd (let h = long refl in omega (arith, short, h))
is_ok (Err ZeroByte) text short clean long none = absurd (clean (none refl).1)

pub field_names : (field : List ℕ) (r : Result (List ℕ) NameFault) → length field ≡ 20
    → ((r ≡ Err TooLong) ↔ (20 < length (before_zero field)))
    → ((r ≡ Err ZeroByte) ↔ ((length (before_zero field) ≤ 20) × Contains (before_zero field) 0)) → IsOk r
field_names field r size long none =
    is_ok r (before_zero field) (let h = length-before_zero field in omega (arith, size, h)) (no_zero field) long.0
    none.0
